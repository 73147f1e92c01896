-- The kinds and their numbers. A number of no kind is read as one of those that there are. Assumes nothing.
use Rattle.std.specs.Prelude.{ℕ, ◌≡◌, refl, Bool, true, false, cond, ltb, min, ◌-◌, ◌<◌, ◌≤◌, get_or}
use lib.ListN.{get_or-eq_default}
use Rattle.std.proofs.Common.{arith, sym, ltb-true, ltb-false}
use Rattle.rows.specs.declared.kinds.BlockKind.{BlockKind}
use Rattle.rows.specs.declared.kinds.BlockKind.TheVariants as of_block
use Rattle.plan.specs.Binding as binding
use Rattle.plan.specs.Constraint as constraint
use Rattle.plan.specs.Row as row
use Rattle.rows.specs.View.{binding_makers, binding_made, step_makers, step_made, arm_makers, arm_made}
use Rattle.rows.specs.Kinds.{binding_number, binding_kind, block_number, block_kind}

pub block_again : (k : BlockKind) → block_kind (block_number k) ≡ k
block_again of_block.Match = refl
block_again of_block.Equal = refl
block_again of_block.Loop = refl
block_again of_block.Return = refl
block_again of_block.ConstBool = refl
block_again of_block.ConstInt = refl
block_again of_block.ConstPrim = refl
block_again of_block.Variant = refl
block_again of_block.Struct = refl
block_again of_block.Some = refl

-- the number of the kind that a number is read as: itself, if it is one

pub block_numbered : (n : ℕ) → block_number (block_kind n) ≡ min n 9
block_numbered n = grind arith

binding_first : (n : ℕ) → n < 7 → binding_number (binding_kind n) ≡ n
binding_first n h = grind arith

binding_last : (n : ℕ) → 7 ≤ n → n < 14 → binding_number (binding_kind n) ≡ n
binding_last n h g = grind arith

binding_past : (n : ℕ) → 14 ≤ n → binding_number (binding_kind n) ≡ 6
binding_past n h = grind arith

pub binding_numbered : (n : ℕ) → binding_number (binding_kind n) ≡ cond (ltb n 14) n 6
binding_numbered n = by_test (ltb n 14) (ltb n 7) refl refl where
  by_test : (a b : Bool) → ltb n 14 ≡ a → ltb n 7 ≡ b → binding_number (binding_kind n) ≡ cond a n 6
  by_test true true p q = binding_first n (ltb-true n 7 q)
  by_test true false p q = binding_last n (ltb-false n 7 q) (ltb-true n 14 p)
  by_test false b p q = binding_past n (ltb-false n 14 p)

-- so what such a kind makes is what the number makes

pub binding_read : (n : ℕ) → binding_made (binding_number (binding_kind n)) ≡ binding_made n
unfolding binding_made
binding_read n = rw (binding_numbered n) (by_test (ltb n 14) refl) where
  by_test : (b : Bool) → ltb n 14 ≡ b → get_or binding_makers (cond b n 6) (λ a b. binding.Iterator) ≡ get_or binding_makers n (λ a b. binding.Iterator)
  by_test true q = refl
  by_test false q = sym (get_or-eq_default binding_makers (λ a b. binding.Iterator) (ltb-false n 14 q))

pub step_read : (n : ℕ) → step_made (block_number (block_kind n)) ≡ step_made n
unfolding step_made
step_read n = rw (block_numbered n) (by_test (ltb n 9) refl) where
  by_test : (b : Bool) → ltb n 9 ≡ b → get_or step_makers (min n 9) (λ a b. row.Match a) ≡ get_or step_makers n (λ a b. row.Match a)
  by_test true q = let h : n < 9 = ltb-true n 9 q in let e : min n 9 ≡ n = omega arith in rw e refl
  by_test false q = let h : 9 ≤ n = ltb-false n 9 q in let e : min n 9 ≡ 9 = omega arith in
      rw e (sym (get_or-eq_default step_makers (λ a b. row.Match a) (omega arith)))

pub arm_read : (n : ℕ) → arm_made (block_number (block_kind n) - 4) ≡ arm_made (n - 4)
unfolding arm_made
arm_read n = rw (block_numbered n) (by_test (ltb n 10) refl) where
  by_test : (b : Bool) → ltb n 10 ≡ b → get_or arm_makers (min n 9 - 4) (λ a b. constraint.Some) ≡ get_or arm_makers (n - 4) (λ a b. constraint.Some)
  by_test true q = let h : n < 10 = ltb-true n 10 q in let e : min n 9 ≡ n = omega arith in rw e refl
  by_test false q = let h : 10 ≤ n = ltb-false n 10 q in let e : min n 9 ≡ 9 = omega arith in rw e (sym (get_or-eq_default arm_makers (λ a b. constraint.Some) (omega arith)))
