-- From pieces to the bytes of tokens: where the pieces of each line stand as they must, so do the tokens of the text. Assumes nothing.
use Prim.Native.Nat.{ℕ, zero, suc, ◌+◌, ◌*◌}
use Rattle.std.specs.Prelude.{◌≡◌, Bool, false, replicate}
use Rattle.std.proofs.Math.Path.{refl}
use Rattle.std.proofs.Math.Bool.{true}
use mathlib.Core.List.{List, [], ◌∷◌, ◌++◌}
use Rattle.text.specs.Codes.{codes}
use Rattle.text.specs.Sink.{spaces}
use Rattle.plan.specs.Plan.{Environment}
use Rattle.codegen.specs.Piece.{Piece, fix, file, sym, pos, type, quoted_sym, quoted_pos, num, var, new, lit, brace, unbrace, break, indent, bytes}
use Rattle.codegen.specs.Block.{words, overflow, What, line, edge, Part}
use Rattle.splitting.specs.Cases.{and_left, and_right, false_true}
use Rattle.read_back.specs.Tokens.{Token, string, integer, other, token_bytes, joined, token, piece_tokens, what_tokens, part_tokens}
use Rattle.read_back.proofs.TokenLaws.{token_is}
use Rattle.token_boundaries.specs.Boundary.{may_precede, may_follow, begins, ends}
use Rattle.token_boundaries.specs.PieceBoundaries.{Last, separated, unseparated, wrong, is_separated, sound, is_token, precedes, follows, after, step, run}
use Rattle.token_boundaries.specs.PieceBoundaries as last
use Rattle.token_boundaries.proofs.BlockBoundaries.{what_sound, parts_sound}

-- BYTES

begins_append : (these : ℕ → Bool) (s t : List ℕ) → begins these s ≡ true → begins these (s ++ t) ≡ true
begins_append these [] t h = false_true h
begins_append these (c ∷ s) t h = h

pub ends_append : (these : ℕ → Bool) (b : Bool) (s t : List ℕ) → ends these b (s ++ t) ≡ ends these (ends these b s) t
ends_append these b [] t = refl
ends_append these b (c ∷ s) t = ends_append these (these c) s t

-- an end that is there is the end, whatever stands before
ends_any : (these : ℕ → Bool) (b : Bool) (s : List ℕ) → ends these false s ≡ true → ends these b s ≡ true
ends_any these b [] h = false_true h
ends_any these b (c ∷ s) h = h

ends_spaces : (n : ℕ) (b : Bool) → b ≡ true → ends may_precede b (replicate n 32) ≡ true
ends_spaces zero b h = h
ends_spaces (suc n) b h = ends_spaces n true refl

ends_indent : (d : ℕ) (b : Bool) → b ≡ true → ends may_precede b (indent d) ≡ true
unfolding indent spaces
ends_indent d b h = ends_spaces (4 * d) b h

-- PIECES

module _ (e : Environment) (d : ℕ) where
  precedes_bytes : (p : Piece) (b : Bool) → precedes p ≡ true → ends may_precede b (bytes e d p) ≡ true
  unfolding bytes
  precedes_bytes (fix t k) b h = ends_any may_precede b (codes t) h
  precedes_bytes (break k) b h = ends_indent (d + k) true refl
  precedes_bytes (lit t v) b h = false_true h
  precedes_bytes (quoted_sym n) b h = false_true h
  precedes_bytes (quoted_pos n) b h = false_true h
  precedes_bytes (file n) b h = false_true h
  precedes_bytes (sym n) b h = false_true h
  precedes_bytes (pos n) b h = false_true h
  precedes_bytes (type n) b h = false_true h
  precedes_bytes (num n) b h = false_true h
  precedes_bytes (var n) b h = false_true h
  precedes_bytes (new n) b h = false_true h
  precedes_bytes brace b h = false_true h
  precedes_bytes unbrace b h = false_true h

  follows_bytes : (p : Piece) → follows p ≡ true → begins may_follow (bytes e d p) ≡ true
  unfolding bytes
  follows_bytes (fix t k) h = h
  follows_bytes (break k) h = refl
  follows_bytes brace h = refl
  follows_bytes (lit t v) h = false_true h
  follows_bytes (quoted_sym n) h = false_true h
  follows_bytes (quoted_pos n) h = false_true h
  follows_bytes (file n) h = false_true h
  follows_bytes (sym n) h = false_true h
  follows_bytes (pos n) h = false_true h
  follows_bytes (type n) h = false_true h
  follows_bytes (num n) h = false_true h
  follows_bytes (var n) h = false_true h
  follows_bytes (new n) h = false_true h
  follows_bytes unbrace h = false_true h

-- WHAT WAS WRITTEN LAST

run_wrong : (ps : List Piece) → run wrong ps ≡ wrong
run_wrong [] = refl
run_wrong (p ∷ ps) = run_wrong ps

sound_from : (s : Last) (ps : List Piece) → sound (run s ps) ≡ true → sound s ≡ true
sound_from separated ps h = refl
sound_from unseparated ps h = refl
sound_from last.token ps h = refl
sound_from wrong ps h = rw (run_wrong ps) at h

-- a token stands only where one may begin
token_separated : (s : Last) (p : Piece) → is_token p ≡ true → sound (step s p) ≡ true → is_separated s ≡ true
token_separated separated p h g = refl
token_separated unseparated p h g = rw h at g
token_separated last.token p h g = rw h at g
token_separated wrong p h g = g

-- after one stands what may follow it
follows_token : (t f b : Bool) → sound (after last.token t f b) ≡ true → f ≡ true
follows_token true f b h = false_true h
follows_token false true b h = refl
follows_token false false b h = h

-- where one may begin, what stands before may precede it
precedes_separated : (s : Last) (t f b : Bool) → is_separated (after s t f b) ≡ true → b ≡ true
precedes_separated separated true f b h = false_true h
precedes_separated separated false f true h = refl
precedes_separated separated false f false h = h
precedes_separated unseparated true f b h = false_true h
precedes_separated unseparated false f true h = refl
precedes_separated unseparated false f false h = h
precedes_separated last.token true f b h = false_true h
precedes_separated last.token false true true h = refl
precedes_separated last.token false true false h = h
precedes_separated last.token false false b h = false_true h
precedes_separated wrong t f b h = false_true h

-- TOKENS

-- a literal or a quoted text stands as it must, where b says so of what stands before it
abbrev pub Beside : Bool → Token → List ℕ → Type 0
Beside b (string s) after = (b ≡ true) × (begins may_follow after ≡ true)
Beside b (integer t v) after = (b ≡ true) × (begins may_follow after ≡ true)
Beside b (other s) after = Unit

-- each of the tokens does
unfoldable pub Bounded : Bool → List Token → Type 0
Bounded b [] = Unit
Bounded b (t ∷ ts) = Beside b t (joined ts) × Bounded (ends may_precede b (token_bytes t)) ts

-- after a token
after_token : (e : Environment) (d : ℕ) (ps : List Piece) (rest : List Token) → sound (run last.token ps) ≡ true → begins may_follow (joined rest) ≡ true → begins may_follow (joined (piece_tokens e d ps ++ rest)) ≡ true
unfolding piece_tokens joined
after_token e d [] rest h g = g
after_token e d (p ∷ ps) rest h g = rw (token_is e d p) (begins_append may_follow (bytes e d p) _ (follows_bytes e d p (follows_token (is_token p) (follows p) (precedes p) (sound_from _ ps h))))

token_at : (s : Last) (p : Piece) (ps : List Piece) → is_token p ≡ true → sound (run (step s p) ps) ≡ true → (is_separated s ≡ true) × (sound (run last.token ps) ≡ true)
token_at separated p ps h g = (refl, rw h at g)
token_at unseparated p ps h g = false_true (token_separated unseparated p h (sound_from _ ps g))
token_at last.token p ps h g = false_true (token_separated last.token p h (sound_from _ ps g))
token_at wrong p ps h g = false_true (token_separated wrong p h (sound_from _ ps g))

module _ (e : Environment) (d : ℕ) (rest : List Token) (g : begins may_follow (joined rest) ≡ true) (k : (b : Bool) → Bounded b rest) where
  beside : (s : Last) (b : Bool) (p : Piece) (ps : List Piece) → (is_separated s ≡ true → b ≡ true) → sound (run (step s p) ps) ≡ true → Beside b (token e d p) (joined (piece_tokens e d ps ++ rest))
  unfolding token
  beside s b (lit t v) ps c h = let w = token_at s (lit t v) ps refl h in (c w.0, after_token e d ps rest w.1 g)
  beside s b (quoted_sym n) ps c h = let w = token_at s (quoted_sym n) ps refl h in (c w.0, after_token e d ps rest w.1 g)
  beside s b (quoted_pos n) ps c h = let w = token_at s (quoted_pos n) ps refl h in (c w.0, after_token e d ps rest w.1 g)
  beside s b (fix t x) ps c h = tt
  beside s b (file n) ps c h = tt
  beside s b (sym n) ps c h = tt
  beside s b (pos n) ps c h = tt
  beside s b (type n) ps c h = tt
  beside s b (num n) ps c h = tt
  beside s b (var n) ps c h = tt
  beside s b (new n) ps c h = tt
  beside s b brace ps c h = tt
  beside s b unbrace ps c h = tt
  beside s b (break x) ps c h = tt

  pieces_bounded : (s : Last) (b : Bool) (ps : List Piece) → (is_separated s ≡ true → b ≡ true) → sound (run s ps) ≡ true → Bounded b (piece_tokens e d ps ++ rest)
  unfolding Bounded piece_tokens
  pieces_bounded s b [] c h = k b
  pieces_bounded s b (p ∷ ps) c h = (
    beside s b p ps c h,
    pieces_bounded (step s p) _ ps (λ x. rw (token_is e d p) (precedes_bytes e d p b (precedes_separated s (is_token p) (follows p) (precedes p) x))) h,
  )

-- LINES

module _ (e : Environment) where
  what_bounded : (d n : ℕ) (w : What) (rest : List Token) → begins may_follow (joined rest) ≡ true → ((b : Bool) → Bounded b rest) → what_sound w ≡ true → Bounded true (what_tokens e d n w ++ rest)
  unfolding what_tokens Bounded
  what_bounded d n (line (words ps)) rest g k h = pieces_bounded e d rest g k separated true ps (λ x. refl) h
  what_bounded d n (line overflow) rest g k h = (tt, k _)
  what_bounded d n (edge x) rest g k h = (tt, k _)

  -- from the beginning of a line on
  pub parts_bounded : (ps : List Part) → parts_sound ps ≡ true → Bounded true (part_tokens e ps)
  unfolding part_tokens Bounded joined token_bytes
  parts_bounded [] h = tt
  parts_bounded (p ∷ ps) h =
      let d : ℕ = p.around + p.base in
      let more : Bounded true (part_tokens e ps) = parts_bounded ps (and_right (what_sound p.what) (parts_sound ps) h) in
      (tt, rw (ends_indent d true refl) (what_bounded d p.around p.what (other (10 ∷ []) ∷ part_tokens e ps) refl (λ b. (tt, more)) (and_left (what_sound p.what) (parts_sound ps) h)))
