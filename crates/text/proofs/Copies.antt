-- A part of a buffer that a text was copied into: as much of the text as the buffer has room for. Assumes nothing.
use Rattle.std.specs.Prelude.{ℕ, ◌+◌, ◌-◌, ◌≤◌, ◌<◌, min, ◌≡◌, refl, Bool, true, false, List, ◌++◌, ltb, length, replicate, take, drop}
use Rattle.std.proofs.Common.{sym, ap, ◌∙◌, arith, length-take-le, take_all, ltb-true, ltb-false}
use Rattle.std.proofs.lemmas.List.{take-append-drop, take-replicate}
use Rattle.std.proofs.lemmas.List.Edits.{sets, sets-eq}
use Rattle.std.proofs.lemmas.Slice.{put_mid-paste}
use Rattle.std.proofs.Math.Seq.{length-sets}
use borrow.Rule.Slice.PartMut.{put_mid}
use borrow.Rule.Slice.Mut.{set_vals}
use Rattle.text.specs.Sink.{Puts, spaces}
use Rattle.text.specs.Writes.{Writes, writes_nil, writes_over}
use Rattle.text.specs.declared.sink.Sink.{Sink}
use Rattle.text.specs.SinkLaws.{puts_held, puts_past, sets_out, sets_take, part_cut}

-- past the buffer's end there is no room
outside : (o t : List ℕ) (at k : ℕ) → length o ≤ at → k ≡ 0 → put_mid (length o) k o (take k t) ≡ sets o at t
outside o t at k h z = rw z (take-append-drop (length o) o ∙ sym (sets_out o at t h))

inside : (o t : List ℕ) (at k : ℕ) → k ≤ length t → at + k ≤ length o → min (length t) (length o - at) ≤ k → put_mid at k o (take k t) ≡ sets o at t
inside o t at k a b m =
    let l : length (take k t) ≡ k = length-take-le k t a in
    let w : sets o at (take k t) ≡ take at o ++ take k t ++ drop (at + k) o = rw l at (sets-eq (take k t) o at (rw l b)) in
    put_mid-paste at k o (take k t) (take k t) k refl refl (sym l) ∙ rw (take_all k (take k t) (rw l (omega arith))) (sym w) ∙ sets_take o at k t m

pub part_stored : {n first : ℕ} (t o : List ℕ) (at : ℕ) {u : List ℕ} (k : ℕ) → length t ≡ n → first ≡ min at (length o) → k ≡ min n (length o - first) → u ≡ take k t → put_mid first k o u ≡ sets o at t
part_stored {n} {first} t o at {u} k l f g q = rw q (go (ltb at (length o)) refl)
  where
    go : (b : Bool) → ltb at (length o) ≡ b → put_mid first k o (take k t) ≡ sets o at t
    go true r =
        let s : at < length o = ltb-true at (length o) r in
        let i : first ≡ at = omega arith in
        rw i (inside o t at k (omega arith) (omega arith) (omega arith))
    go false r =
        let s : length o ≤ at = ltb-false at (length o) r in
        let i : first ≡ length o = omega arith in
        rw i (outside o t at k s (omega arith))

-- what is left of a run of spaces
pub taken_spaces : (n k m : ℕ) → m ≡ k → k ≤ n → replicate m 32 ≡ take k (spaces n)
unfolding spaces
taken_spaces n k m q h = rw (q, take-replicate {X = ℕ} k n 32 h)

-- a text that is put from below the end: where it goes past the room, nothing more is said of the buffer
pub writes_held : {t : List ℕ} {w : Sink} {at : ℕ} {o : List ℕ} → w.at < w.end → at ≡ w.at + length t → o ≡ sets w.out.now w.at t → Writes t w (record { out = set_vals o w.out; at = at; end = w.end; odd = w.odd })
writes_held {t} {w} h a d = record { buffer = refl; size = rw d (length-sets w.out.now w.at t); end = refl; odd = refl; puts = puts_held h d a }

-- of a text, as many bytes as are below the end: the text goes past the room, or those are all of it
pub writes_short : {n : ℕ} (t : List ℕ) {w : Sink} {o : List ℕ} → n ≡ min (length t) (w.end - w.at) → n < length t → o ≡ sets w.out.now w.at (take n t) → Writes t w (record { out = set_vals o w.out; at = w.end; end = w.end; odd = w.odd })
writes_short {n} t {w} m l d = record { buffer = refl; size = rw d (length-sets w.out.now w.at (take n t)); end = refl; odd = refl; puts = puts_past (omega arith) (omega arith) }

pub writes_all : {n : ℕ} (t : List ℕ) {w : Sink} {at : ℕ} {o : List ℕ} → n ≡ min (length t) (w.end - w.at) → length t ≤ n → at ≡ w.at + n → o ≡ sets w.out.now w.at (take n t) → Writes t w (record { out = set_vals o w.out; at = at; end = w.end; odd = w.odd })
writes_all {n} t {w} {at} {o} m l a d = record { buffer = refl; size = rw d (length-sets w.out.now w.at (take n t)); end = refl; odd = refl; puts = go (ltb w.at w.end) refl }
  where
    go : (b : Bool) → ltb w.at w.end ≡ b → Puts w.end t w.out.now w.at o at
    go true r = puts_held (ltb-true w.at w.end r) (d ∙ ap (sets w.out.now w.at) (take_all n t l)) (omega arith)
    go false r = let s : w.end ≤ w.at = ltb-false w.at w.end r in puts_past (omega arith) (omega arith)

-- a text of n bytes that has room, and one that has not; w₁ is the sink that went n bytes on
pub writes_stored : {t : List ℕ} {n at : ℕ} {w w₁ : Sink} {o : List ℕ} → (at ≡ w.at) × (w.at + n < w.end) × (w₁.at ≡ w.at + n) → length t ≡ n → (w₁.out ≡ w.out) × (w₁.end ≡ w.end) × (w₁.odd ≡ w.odd) → o ≡ sets w₁.out.now at t → Writes t w (record { out = set_vals o w₁.out; at = w₁.at; end = w₁.end; odd = w₁.odd })
writes_stored {t} {n} {at} {w} {w₁} a l s d = rw (s.0, s.1, s.2, a.2) (record { buffer = refl; size = rw (d, s.0) (length-sets w.out.now at t); end = refl; odd = refl; puts = puts_held (omega (arith, a.1)) (rw (s.0, a.0) at d) (rw l refl) })

pub writes_past : {t : List ℕ} {n : ℕ} {w w₁ : Sink} → length t ≡ n → (w.end ≤ w.at + n) × (w₁.at ≡ w.end) → (w₁.out ≡ w.out) × (w₁.end ≡ w.end) × (w₁.odd ≡ w.odd) → Writes t w w₁
writes_past {t} {n} {w} {w₁} l a s = rw (s.0, s.1, s.2, a.1) (writes_over (omega (arith, a.0)))

-- a part of a text, up to its end
part_least : (first last n : ℕ) (t : List ℕ) → n ≡ min last (length t) → take (n - first) (drop first t) ≡ take (last - first) (drop first t)
part_least first last n t q = go (ltb (length t) last) refl
  where
    go : (b : Bool) → ltb (length t) last ≡ b → take (n - first) (drop first t) ≡ take (last - first) (drop first t)
    go true r =
        let s : length t < last = ltb-true (length t) last r in
        part_cut (n - first) (last - first) first t (omega arith) (omega arith)
    go false r =
        let s : last ≤ length t = ltb-false (length t) last r in
        let i : n ≡ last = omega arith in
        rw i

-- a part of a text that ends where it begins, or before
pub writes_no_part : (first last : ℕ) (t : List ℕ) {w : Sink} → min last (length t) ≤ first → Writes (take (last - first) (drop first t)) w w
writes_no_part first last t h = let z : min last (length t) - first ≡ 0 = omega arith in rw (← part_least first last _ t refl, z) writes_nil
