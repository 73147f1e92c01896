-- A text that is escaped in parts, from one escape to the next. Assumes nothing.
use Rattle.std.specs.Prelude.{ℕ, suc, ◌+◌, ◌-◌, ◌≤◌, ◌<◌, ◌≡◌, true, false, List, [], ◌∷◌, ◌++◌, length, take, drop, get_or}
use lib.Seq.{get_or-drop}
use Rattle.std.proofs.Common.{sym, ap, ◌∙◌, arith, append-nil, append_assoc, take-suc, take_all, length-drop}
use Rattle.std.proofs.Math.Nat.{sub_self}
use Rattle.text.specs.Writes.{Writes, writes_nil, writes_then}
use Rattle.text.specs.declared.sink.Sink.{Sink}
use Rattle.literal.specs.Quote.{backslash, escaped}
use Rattle.literal.specs.QuoteLaws.{is_escaped, escaped_mark, escaped_other, escaped_none, escaped_more}

-- From the sink w₀ to w a text was written; with the bytes of t from the place `first` up to place i, which are still to be put, it is t
-- escaped up to i.
pub record Escaping (t : List ℕ) (i first : ℕ) (w₀ w : Sink) : Type 0 where
  pub text : List ℕ
  pub written : Writes text w₀ w
  pub is : text ++ take (i - first) (drop first t) ≡ escaped (take i t)
  pub begun : first ≤ i

pub escaping_none : {t : List ℕ} {w : Sink} → Escaping t 0 0 w w
escaping_none {t} = record { text = []; written = writes_nil; is = sym (escaped_none t); begun = omega arith }

-- a byte more of a part
part_more : (t : List ℕ) (i first : ℕ) → first ≤ i → i < length t → take (i + 1 - first) (drop first t) ≡ take (i - first) (drop first t) ++ (get_or t i 0 ∷ [])
part_more t i first h g =
    let n : i + 1 - first ≡ suc (i - first) = omega arith in
    let k : first + (i - first) ≡ i = omega arith in
    rw n (take-suc (drop first t) (i - first) 0 (rw length-drop (omega arith)) ∙ ap (λ (x : ℕ). take (i - first) (drop first t) ++ (x ∷ [])) (get_or-drop first t (i - first) 0 ∙ ap (λ (j : ℕ). get_or t j 0) k))

module _ {t : List ℕ} {i first : ℕ} {w₀ w : Sink} (e : Escaping t i first w₀ w) where
  -- a byte that has a backslash before it
  pub escaping_mark : {w₁ w₂ : Sink} → i < length t → is_escaped (get_or t i 0) ≡ true → Writes (take (i - first) (drop first t)) w w₁ → Writes (backslash ∷ []) w₁ w₂ → Escaping t (i + 1) i w₀ w₂
  escaping_mark h q p r = record {
    text = (e.text ++ take (i - first) (drop first t)) ++ (backslash ∷ []);
    written = writes_then (writes_then e.written p) r;
    is = rw (part_more t i i (omega arith) h, sub_self i, e.is, append_assoc) (sym (escaped_more t i h ∙ ap (λ (s : List ℕ). escaped (take i t) ++ s) (escaped_mark (get_or t i 0) q)));
    begun = omega arith;
  }

  -- the same, where the byte is put with its backslash
  pub escaping_pair : {w₁ w₂ w₃ : Sink} → i < length t → is_escaped (get_or t i 0) ≡ true → Writes (take (i - first) (drop first t)) w w₁ → Writes (backslash ∷ []) w₁ w₂ → Writes (get_or t i 0 ∷ []) w₂ w₃ → Escaping t (i + 1) (i + 1) w₀ w₃
  escaping_pair h q p r s =
      let m = escaping_mark h q p r in
      record {
        text = m.text ++ (get_or t i 0 ∷ []);
        written = writes_then m.written s;
        is = rw (sub_self (i + 1), append-nil) (rw (part_more t i i (omega arith) h, sub_self i) at m.is);
        begun = omega arith;
      }

  -- another byte
  pub escaping_other : i < length t → is_escaped (get_or t i 0) ≡ false → Escaping t (i + 1) first w₀ w
  escaping_other h q = record {
    text = e.text;
    written = e.written;
    is = rw (part_more t i first e.begun h, ← append_assoc, e.is) (sym (escaped_more t i h ∙ ap (λ (s : List ℕ). escaped (take i t) ++ s) (escaped_other (get_or t i 0) q)));
    begun = omega (arith, e.begun);
  }

  pub escaping_all : {w' : Sink} → length t ≤ i → i ≤ length t → Writes (take (length t - first) (drop first t)) w w' → Writes (escaped t) w₀ w'
  escaping_all h g p =
      let n : i ≡ length t = omega arith in
      rw (← take_all i t h, ← e.is, n) (writes_then e.written p)
