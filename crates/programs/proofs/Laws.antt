-- The lines fit into the buffer, and what the entries answer is what is printed. Assumes nothing.
use Prim.Native.Nat.{ℕ, zero, suc, ◌+◌, ◌-◌, ◌/◌, ◌^◌, ◌≤◌, ◌<◌}
use mathlib.Core.Path.{◌≡◌, refl}
use mathlib.Core.Bool.{Bool, true, false, cond}
use mathlib.Core.List.{List}
use native.Mathlib.Omega.{arith}
use lib.Dec.{ltb, leb}
use lib.ListN.{length, take, drop, length-append}
use lib.Seq.{take-append_seam}
use borrow.Author.Tests.{ltb-false, ne_eqb}
use Rattle.text.specs.Digits.{digits, decimal}
use Rattle.text.specs.DigitsLaws.{part_less, places, forty_places}
use Rattle.text.specs.Sink.{Puts}
use Rattle.text.specs.Writes.{Writes}
use Rattle.text.specs.declared.sink.Sink.{Sink}
use Rattle.text.specs.SinkLaws.{puts_fit, puts_written}
use Rattle.plan.specs.Plan.{Plan}
use Rattle.plan.specs.Refusal.{Outcome, refused, accepted, outcome}
use Rattle.codegen.specs.Piece.{render}
use Rattle.codegen.specs.Items.{items}
use Rattle.codegen.specs.Terms.{terms_text, odds}
use Rattle.codegen.specs.Answer.{Answer, refuse, answer_of, answer, terms_answer, whole_text}
use Rattle.std.specs.Prelude.{Ok, Err, Some, None}
use Rattle.refusal.specs.Number.{number, refusal_number}
use Rattle.refusal.specs.declared.Refusal.{Refusal}
use Rattle.refusal.specs.NumberLaws.{some_number}
use Rattle.emitter.specs.Answered.{Emitted, Answers, items_answer}
use Rattle.programs.specs.Printed.{refused_line, accepted_line, verdict, printed, count_line, shown}

-- LENGTHS

by_test : (b : Bool) (x y : List ℕ) (m : ℕ) → (b ≡ true → length x ≤ m) → (b ≡ false → length y ≤ m) → length (cond b x y) ≤ m
by_test true x y m f g = f refl
by_test false x y m f g = g refl

digits_length : (k n m : ℕ) → 1 ≤ m → n < 10 ^ m → length (digits 10 k n) ≤ m
unfolding digits
digits_length zero n m l h = omega arith
digits_length (suc k) n m l h =
    by_test (ltb n 10) _ _ m (λ q. omega arith) (λ q.
    let g : 10 ≤ n = ltb-false n 10 q in
    let two : 1 < m = places 10 1 n m (omega arith) g h in
    let r : length (digits 10 k (n / 10)) ≤ m - 1 = digits_length k (n / 10) (m - 1) (omega arith) (part_less 10 m n (omega arith) l h) in
    simp length-append (omega arith))

decimal_length : (n : ℕ) → n < 18446744073709551616 → length (decimal n) ≤ 40
unfolding decimal
decimal_length n h = digits_length (suc n) n 40 (omega arith) (forty_places 10 n (omega arith) h)

pub refused_length : (n : ℕ) → n < 18446744073709551616 → length (refused_line n) ≤ 65536
unfolding refused_line
refused_length n h = simp length-append (omega (arith, decimal_length n h))

pub count_length : (n l k : ℕ) → n < 18446744073709551616 → l < 18446744073709551616 → k < 18446744073709551616 → length (count_line n l k) ≤ 65536
unfolding count_line
count_length n l k h g i = simp length-append (omega (arith, decimal_length n h, decimal_length l g, decimal_length k i))

-- a text that fits into the buffer is its first bytes
first_bytes : {t o : List ℕ} {o' : List ℕ} {n : ℕ} → Puts 65537 t o 0 o' n → length t ≤ 65536 → 65536 ≤ length o → take n o' ≡ t
first_bytes {t} {o} {o'} {n} p h l =
    let f : (n ≡ 0 + length t) × (o' ≡ _) = puts_fit p (omega arith) in
    let q : n ≡ length t = omega arith in
    rw (q, puts_written p (omega arith) (omega arith)) (take-append_seam t (drop (0 + length t) o))

-- a line that a sink has put from the buffer's start
pub line_put : {t : List ℕ} {w w' : Sink} → w.end ≡ 65537 → w.at ≡ 0 → Writes t w w' → length t ≤ 65536 → 65536 ≤ length w.out.now → take w'.at w'.out.now ≡ t
line_put e a q h l = first_bytes (rw (e, a) at q.puts) h l

pub accepted_length : length accepted_line ≤ 65536
unfolding accepted_line
accepted_length = omega arith

-- ANSWERS

-- the length of an answer is that of its text
sized : (text : Plan → List ℕ) (room : ℕ) (o : Outcome) → length (answer_of text room o).text ≡ (answer_of text room o).length
unfolding answer_of
sized text room (refused n) = refl
sized text room (accepted p) = go (leb (length (text p)) room)
  where
    go : (b : Bool) → length (cond b (record { number = 0; length = length (text p); count = odds p; text = text p }) (refuse 11)).text ≡ (cond b (record { number = 0; length = length (text p); count = odds p; text = text p }) (refuse 11)).length
    go true = refl
    go false = refl

shown_is : {a : Answer} {r : Emitted} {before after : List ℕ} → length a.text ≡ a.length → Answers a r before after → shown r after ≡ printed a
unfolding printed
shown_is {r = Err n} s p = rw (← p.written, p.number)
shown_is {a} {r = Ok t} {before} s p = rw (← p.written, p.bytes, p.length, ← s) (take-append_seam a.text (drop (length a.text) before))

module _ (plan : List ℕ) {room : ℕ} {r : Emitted} {before after : List ℕ} (e : room ≡ 65536) where
  pub whole_printed : Answers (answer plan room) r before after → shown r after ≡ printed (answer plan 65536)
  unfolding answer
  whole_printed p = shown_is (sized whole_text 65536 (outcome plan)) (rw e at p)

  pub terms_printed : Answers (terms_answer plan room) r before after → shown r after ≡ printed (terms_answer plan 65536)
  unfolding terms_answer
  terms_printed p = shown_is (sized terms_text 65536 (outcome plan)) (rw e at p)

  pub items_printed : Answers (items_answer plan room) r before after → shown r after ≡ printed (items_answer plan 65536)
  unfolding items_answer
  items_printed p = shown_is (sized (λ q. render q.env 0 (items q)) 65536 (outcome plan)) (rw e at p)

-- the line that is printed of a plan's lowest refusal
pub none_refused : {m : ℕ} → refusal_number None ≡ m → accepted_line ≡ verdict m
unfolding verdict
none_refused e = rw (← e) refl

pub one_refused : (r : Refusal) {m : ℕ} → refusal_number (Some r) ≡ m → refused_line (number r) ≡ verdict m
unfolding verdict
one_refused r e = rw (← e, ne_eqb (number r) 0 (some_number r)) refl
