-- Demand 2, of the entries `emit` and `emit_terms`. Assumes nothing.
use Rattle.std.specs.Prelude.{ℕ, ◌%◌, ◌^◌, ◌≤◌, ◌≡◌, refl, true, false, List, [], ◌++◌, length, drop, take, Ok, Err}
use Rattle.std.proofs.Common.{◌∙◌, le-leb}
use Rattle.std.proofs.Math.Option.{some, none}
use Rattle.literal.specs.declared.builtin_type.IntType.{IntType}
use Rattle.literal.specs.declared.builtin_type.IntType.TheVariants.{U128, I128}
use Rattle.literal.specs.BuiltinType.{bits}
use Rattle.literal.specs.Literal.{literal, odd}
use Rattle.literal.specs.Quote.{quoted}
use Rattle.literal.specs.Reference.{typed, untyped, integer_value, string_value}
use Rattle.literal.specs.ReadBack.{extended}
use Rattle.plan.specs.Plan.{Plan}
use Rattle.plan.specs.Refusal.{accepted, outcome}
use Rattle.codegen.specs.Terms.{terms_text, odds}
use Rattle.codegen.specs.Items.{items}
use Rattle.codegen.specs.Answer.{answer_of, answer, terms_answer, whole_text}
use Rattle.splitting.specs.Cases.{false_true}
use Rattle.read_back.specs.Tokens.{Token, string, integer, joined, piece_tokens, whole_tokens, terms_tokens, odd_count, ReadsBack, Reads, ◌∈◌}
use Rattle.read_back.specs.Origins.{Origins}
use Rattle.read_back.proofs.Theorems.{whole_text_reads_back, terms_text_reads_back, whole_text_origins, terms_text_origins}
use Rattle.emitter.specs.Answered.{Emitted, Answers, gives}
use Rattle.demands.specs.Calls.{Wrote, wrote}

-- DEMAND 2: "For every plan that passes refusals 1 to 10, with a buffer long enough: the bytes are those that the crate's release build
-- writes from the same environments, bindings and blocks." The definitions `whole-text` and `terms-text` state these bytes; that they
-- are the crate's is tested (tools/try-definition, bench/run whole compare).

pub record Writes (t : List ℕ) (count : ℕ) (before : List ℕ) (r : Emitted) (after : List ℕ) : Type 0 where
  pub result : r ≡ gives (length t) count
  pub bytes : after ≡ t ++ drop (length t) before

writes : (form : Plan → List ℕ) (p : Plan) {before : List ℕ} {r : Emitted} {after : List ℕ} → length (form p) ≤ length before → Answers (answer_of form (length before) (accepted p)) r before after → Writes (form p) (odds p) before r after
unfolding answer_of
writes form p {before} {r} {after} h q = by_result r (rw (le-leb (length (form p)) (length before) h) at q)
  where
    by_result : (r : Emitted) → Answers (record { number = 0; length = length (form p); count = odds p; text = form p }) r before after → Writes (form p) (odds p) before r after
    by_result (Err n) q = false_true q.written
    by_result (Ok t) q = record { result = rw (q.length, q.count) refl; bytes = q.bytes }

pub demand_2 : (plan before : List ℕ) (p : Plan) {r : Emitted} {after : List ℕ} → outcome plan ≡ accepted p → length (whole_text p) ≤ length before → Answers (answer plan (length before)) r before after → Writes (whole_text p) (odds p) before r after
unfolding answer
demand_2 plan before p e h q = writes whole_text p h (rw e at q)

pub demand_2_terms : (plan before : List ℕ) (p : Plan) {r : Emitted} {after : List ℕ} → outcome plan ≡ accepted p → length (terms_text p) ≤ length before → Answers (terms_answer plan (length before)) r before after → Writes (terms_text p) (odds p) before r after
unfolding terms_answer
demand_2_terms plan before p e h q = writes terms_text p h (rw e at q)

-- "Read back one by one by the Rust Reference, each quoted text is the text it came from; a fixed-width integer literal is its value
-- wrapped to its type, and a usize or isize literal is its value unless it is odd. The count is that of the odd literals: those whose
-- value lies outside their type's range; literals of u128, i128 and non-integer types never count." The tokens of a plan are the quoted
-- texts, the literals and the other bytes of its text (read_back/specs/Tokens); what the Reference says is in literal/specs/Reference.

pub record ReadBack (plan : List ℕ) (tokens : Plan → List Token) (l k : ℕ) (after : List ℕ) : Type 0 where
  pub p : Plan
  pub is : outcome plan ≡ accepted p
  -- the text is the tokens of its plan, one after the other
  pub text_is : take l after ≡ joined (tokens p)
  -- "each quoted text is the text it came from"
  pub texts : {s : List ℕ} → string s ∈ tokens p → string_value (quoted s) ≡ some s
  -- "a fixed-width integer literal is its value wrapped to its type"
  pub wrapped : {t : IntType} {v : ℕ} → integer (some t) v ∈ tokens p → integer_value (literal (some t) v) ≡ some (typed t (v % 2 ^ bits t))
  -- "and a usize or isize literal is its value unless it is odd": so is a literal of any integer type, and an odd one is not
  pub unless_odd : {t : IntType} {v : ℕ} → integer (some t) v ∈ tokens p → odd (some t) v ≡ false → extended (integer_value (literal (some t) v)) ≡ some v
  pub odd_is_not : {t : IntType} {v : ℕ} → integer (some t) v ∈ tokens p → odd (some t) v ≡ true → extended (integer_value (literal (some t) v)) ≡ some v → ⊥
  -- a literal of another type is its value
  pub untyped_is : {v : ℕ} → integer none v ∈ tokens p → integer_value (literal none v) ≡ some (untyped v)
  -- "The count is that of the odd literals: those whose value lies outside their type's range"
  pub count : k ≡ odd_count (tokens p)
  -- "literals of u128, i128 and non-integer types never count"
  pub u128_never : {v : ℕ} → integer (some U128) v ∈ tokens p → odd (some U128) v ≡ false
  pub i128_never : {v : ℕ} → integer (some I128) v ∈ tokens p → odd (some I128) v ≡ false
  pub untyped_never : {v : ℕ} → integer none v ∈ tokens p → odd none v ≡ false

read_back : {form : Plan → List ℕ} (tokens : Plan → List Token) {plan : List ℕ} {l k : ℕ} {after : List ℕ} → (w : Wrote form plan l k after) → Reads (form w.p) (odds w.p) (tokens w.p) → ReadBack plan tokens l k after
unfolding ReadsBack
read_back tokens w r = record {
  p = w.p;
  is = w.is;
  text_is = w.text ∙ r.made_of;
  texts = λ m. r.each _ m;
  wrapped = λ m. (r.each _ m).wrapped;
  unless_odd = λ m. (r.each _ m).unless_odd;
  odd_is_not = λ m. (r.each _ m).odd_is_not;
  untyped_is = λ m. (r.each _ m).value;
  count = w.count ∙ r.counted;
  u128_never = λ m. (r.each _ m).u128 refl;
  i128_never = λ m. (r.each _ m).i128 refl;
  untyped_never = λ m. (r.each _ m).never;
}

pub demand_2_read_back : (plan before : List ℕ) {l k : ℕ} {after : List ℕ} → Answers (answer plan (length before)) (gives l k) before after → ReadBack plan whole_tokens l k after
unfolding answer
demand_2_read_back plan before q = let w = wrote whole_text plan before q in read_back whole_tokens w (whole_text_reads_back plan w.p w.is)

pub demand_2_read_back_terms : (plan before : List ℕ) {l k : ℕ} {after : List ℕ} → Answers (terms_answer plan (length before)) (gives l k) before after → ReadBack plan terms_tokens l k after
unfolding terms_answer
demand_2_read_back_terms plan before q = let w = wrote terms_text plan before q in read_back terms_tokens w (terms_text_reads_back plan w.p w.is)

-- "Literals are what `int` bindings and `int` arms write, and nothing in a plan's own texts or the fixed lines" (document 01): in each
-- block table the literals and quoted texts are, in order, those of the rows that origin/specs/Origin gives, and none hides among other
-- bytes: `Origins` (read_back/specs/Origins). `head`: the tokens that stand before the terms.

pub record FromRows (plan : List ℕ) (head tokens : Plan → List Token) (l : ℕ) (after : List ℕ) : Type 0 where
  pub p : Plan
  pub is : outcome plan ≡ accepted p
  pub text_is : take l after ≡ joined (tokens p)
  pub origins : Origins p (head p) (tokens p)

pub demand_2_origins : (plan before : List ℕ) {l k : ℕ} {after : List ℕ} → Answers (answer plan (length before)) (gives l k) before after → FromRows plan (λ p. piece_tokens p.env 0 (items p)) whole_tokens l after
demand_2_origins plan before {l} {k} {after} q =
    let r : ReadBack plan whole_tokens l k after = demand_2_read_back plan before q in
    record { p = r.p; is = r.is; text_is = r.text_is; origins = whole_text_origins r.p }

pub demand_2_origins_terms : (plan before : List ℕ) {l k : ℕ} {after : List ℕ} → Answers (terms_answer plan (length before)) (gives l k) before after → FromRows plan (λ p. []) terms_tokens l after
demand_2_origins_terms plan before {l} {k} {after} q =
    let r : ReadBack plan terms_tokens l k after = demand_2_read_back_terms plan before q in
    record { p = r.p; is = r.is; text_is = r.text_is; origins = terms_text_origins r.p }
