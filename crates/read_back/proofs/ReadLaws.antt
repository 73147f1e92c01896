-- Each token reads back, where the values of `int` rows are below 2 ^ 128 and the plan's texts printable.
use Prim.Native.Nat.{ℕ, zero, suc, ◌^◌, ◌<◌}
use Rattle.std.specs.Prelude.{◌≡◌, true, false, not, get_or}
use Rattle.std.proofs.Math.Path.{refl}
use Rattle.std.proofs.Common.{sym as back, ap, ◌∙◌, ltb-true}
use Rattle.std.proofs.Math.Option.{Option, some, none}
use mathlib.Core.List.{List, [], ◌∷◌}
use Rattle.literal.specs.declared.builtin_type.IntType.{IntType}
use Rattle.literal.specs.Literal.{literal, odd}
use Rattle.literal.specs.Quote.{quoted}
use Rattle.literal.specs.Reference.{integer_value, string_value}
use Rattle.literal.specs.ReadBack.{extended}
use Rattle.literal.proofs.ReadBack.{read_back, read_back_untyped, read_back_not_odd, read_back_outside, u128_never_odd, i128_never_odd, other_never_odd, quoted_read_back}
use Rattle.plan.specs.Plan.{Options, Environment, Generated, Plan}
use Rattle.plan.specs.Binding.{BindingRow}
use Rattle.plan.specs.Constraint as constraint
use Rattle.plan.specs.Row.{Row, arm}
use Rattle.plan.specs.Lookup.{binding_at}
use Rattle.plan.specs.Refusal.{every}
use Rattle.codegen.specs.Items.{items}
use Rattle.codegen.specs.Terms.{term_parts, all_parts}
use Rattle.splitting.specs.Cases.{and_left, and_right, false_true}
use Rattle.origin.specs.Origin.{Origin, of_binding, of_arm, of_name, of_return, of_declared, term_of, binding_int, row_int, int_at}
use Rattle.origin.proofs.BlockOrigins.{term_origins}
use Rattle.read_back.specs.Tokens.{Token, string, integer, other, piece_tokens, part_tokens, terms_tokens, odd_count, IntegerReadsBack, ReadsBack}
use Rattle.read_back.proofs.TokenLaws.{Each, each_append, each_map}
use Rattle.read_back.specs.Origins.{LiteralOf, QuotedText, logged_name, logged_position, last_name, last_position}
use Rattle.read_back.proofs.TokenOrigins.{IsOther, items_other, TokenOf, tokens_append, parts_each}
use Rattle.read_back.specs.ValueLaws.{int_small, table_small}
use Rattle.read_back.proofs.Accepted.{Printed, Readable, text_printable}

-- a literal that is its value is not odd
odd_not : (t : IntType) (v : ℕ) → extended (integer_value (literal (some t) v)) ≡ some v → odd (some t) v ≡ false
unfolding literal extended odd
odd_not t v e = ap not (read_back_outside t v (inside (rw (read_back t v) at e)))
  where
    inside : {m n : ℕ} → ◌≡◌ {A = Option ℕ} (some m) (some n) → m ≡ n
    inside q = cc

-- a literal whose value is below 2 ^ 128
integer_reads : (t : IntType) (v : ℕ) → v < 2 ^ 128 → IntegerReadsBack t v
unfolding literal
integer_reads t v h = record {
  wrapped = read_back t v;
  unless_odd = read_back_not_odd (some t) v h;
  odd_is_not = λ o e. false_true (back (odd_not t v e) ∙ o);
  u128 = λ e. rw e (u128_never_odd v h);
  i128 = λ e. rw e (i128_never_odd v);
}

-- of each token: its row's value is small, or its text is printable
module _ (e : Environment) (h : Printed e) (g : Generated) (k : table_small g ≡ true) where
  binding_small : (bs : List BindingRow) → every (λ b. int_small (binding_int b.binding)) bs ≡ true → (n : ℕ) → int_small (binding_int (binding_at bs n).binding) ≡ true
  unfolding every
  binding_small [] f n = refl
  binding_small (b ∷ bs) f zero = and_left (int_small (binding_int b.binding)) _ f
  binding_small (b ∷ bs) f (suc n) = binding_small bs (and_right (int_small (binding_int b.binding)) _ f) n

  row_small : (rs : List Row) → every (λ r. int_small (row_int r)) rs ≡ true → (n : ℕ) → int_small (row_int (get_or rs n (arm 0 constraint.Some []))) ≡ true
  unfolding every
  row_small [] f n = refl
  row_small (r ∷ rs) f zero = and_left (int_small (row_int r)) _ f
  row_small (r ∷ rs) f (suc n) = row_small rs (and_right (int_small (row_int r)) _ f) n

  origin_small : (x : Origin) → int_small (int_at g x) ≡ true
  origin_small (of_binding b) = binding_small g.bindings (and_left (every (λ b. int_small (binding_int b.binding)) g.bindings) _ k) b
  origin_small (of_arm j) = row_small g.rows (and_right (every (λ b. int_small (binding_int b.binding)) g.bindings) _ k) j
  origin_small of_name = refl
  origin_small (of_return j) = refl
  origin_small of_declared = refl

  literal_small : {t : Option IntType} {v : ℕ} → LiteralOf e g t v → v < 2 ^ 128
  literal_small {t} {v} x = ltb-true v (2 ^ 128) (rw x.is at (origin_small x.origin))

  text_reads : {i : Option ℕ} {s : List ℕ} → QuotedText e g i s → string_value (quoted s) ≡ some s
  text_reads (logged_name i l r q bs z) = quoted_read_back _ (text_printable e.syms (term_of e g).name h.syms)
  text_reads (logged_position i l r q bs z) = quoted_read_back _ (text_printable e.poss q h.poss)
  text_reads last_name = quoted_read_back _ (text_printable e.syms (term_of e g).name h.syms)
  text_reads last_position = quoted_read_back _ (text_printable e.poss (term_of e g).pos h.poss)

  token_reads : (i : Option ℕ) (t : Token) → TokenOf e g i t → ReadsBack t
  unfolding ReadsBack
  token_reads i (string s) x = text_reads x
  token_reads i (integer (some t) v) x = integer_reads t v (literal_small x)
  token_reads i (integer none v) x = record { value = read_back_untyped v (literal_small x); never = other_never_odd v }
  token_reads i (other s) x = tt

tables_read : (o : Options) (e : Environment) → Printed e → (gs : List Generated) → every table_small gs ≡ true → Each ReadsBack (part_tokens e (all_parts o e gs))
unfolding all_parts every Each part_tokens
tables_read o e h [] k = tt
tables_read o e h (g ∷ gs) k =
    rw (tokens_append e (term_parts o e g) (all_parts o e gs))
    (each_append ReadsBack (part_tokens e (term_parts o e g)) _ (parts_each e g ReadsBack (token_reads e h g (and_left (table_small g) _ k)) (term_origins o e g)) (tables_read o e h gs (and_right (table_small g) _ k)))

pub terms_read : (p : Plan) → Readable p → Each ReadsBack (terms_tokens p)
unfolding terms_tokens
terms_read p r = tables_read p.options p.env r.texts p.generated r.values

-- what stands before the terms has neither literals nor quoted texts
other_reads : (e : Environment) (t : Token) → IsOther e t → ReadsBack t
unfolding ReadsBack
other_reads e (string s) h = absurd h
other_reads e (integer t v) h = absurd h
other_reads e (other s) h = tt

pub items_read : (p : Plan) → Each ReadsBack (piece_tokens p.env 0 (items p))
items_read p = each_map (IsOther p.env) ReadsBack (other_reads p.env) (piece_tokens p.env 0 (items p)) (items_other p)

others_not_odd : (e : Environment) (ts : List Token) → Each (IsOther e) ts → odd_count ts ≡ 0
unfolding odd_count Each
others_not_odd e [] h = refl
others_not_odd e (string s ∷ ts) h = absurd h.0
others_not_odd e (integer t v ∷ ts) h = absurd h.0
others_not_odd e (other s ∷ ts) h = others_not_odd e ts h.1

pub items_not_odd : (p : Plan) → odd_count (piece_tokens p.env 0 (items p)) ≡ 0
items_not_odd p = others_not_odd p.env (piece_tokens p.env 0 (items p)) (items_other p)
