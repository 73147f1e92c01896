-- The sink: a lent buffer and a position in it, into which texts are put one after another. Assumes nothing: these are definitions.
--
-- A position counts the bytes put so far. It saturates at `e`, one more than the room: a position below `e` is true, and one
-- that is not below `e` says only that the text is past the room.
-- `Puts e t o at o' at'` says: from the buffer `o` and the position `at`, the text `t` leads to the buffer `o'` and the position `at'`.
--   * A text that fits, `at + length t < e`, is put: the position is `at + length t`, and the buffer is `o` with the bytes of `t`
--     from `at` on. A byte whose place is past the buffer's end is counted and not stored; every other byte is unchanged.
--   * A text that does not fit leads past the room. From there every text leads past the room again, and nothing more is said
--     of the buffer. So to measure a text is to put it into a buffer of no use, with the room that is asked about.
-- SinkLaws.antt proves these sentences (`puts-fit`, `puts-written`, `puts-room`, `puts-over`).
use Rattle.std.specs.Prelude.{ℕ, ◌+◌, ◌≡◌, cond, List, ltb, length, replicate}
use Rattle.std.proofs.lemmas.List.Edits.{sets}

-- past the room; or a buffer, and how many bytes of the text are before this place
pub data Sink : Type 0 where
  past : Sink
  held : List ℕ → ℕ → Sink

-- what a buffer and a position stand for
unfoldable pub view : ℕ → List ℕ → ℕ → Sink
view e o at = cond (ltb at e) (held o at) past

-- the text t more; `sets o at t` is o with the bytes of t from at on, those past its end left out
unfoldable pub put : ℕ → List ℕ → Sink → Sink
put e t past = past
put e t (held o at) = view e (sets o at t) (at + length t)

-- all that a caller of a writer has to know
pub record Puts (e : ℕ) (t o : List ℕ) (at : ℕ) (o' : List ℕ) (at' : ℕ) : Type 0 where
  pub is : view e o' at' ≡ put e t (view e o at)

-- n spaces
unfoldable pub spaces : ℕ → List ℕ
spaces n = replicate n 32
