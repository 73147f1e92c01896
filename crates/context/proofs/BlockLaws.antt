-- Laws of specs/Block.antt: the steps one by one are those of one block, and what they do fixes the state. Assumes nothing.
use Rattle.std.specs.Prelude.{ℕ, ◌+◌, ◌-◌, ◌≡◌, Bool, cond, List}
use Rattle.std.proofs.Common.{arith, sym, ap, ◌∙◌}
use Rattle.codegen.specs.Writer.{insert}
use Rattle.emits.specs.Marks.{set_of}
use Rattle.context.specs.Context.{SetRef, deeper, shallower, counted}
use Rattle.context.specs.declared.body_context.Nesting.{Nesting}
use Rattle.context.specs.declared.body_context.BodyContext.{BodyContext}
use Rattle.context.specs.Steps.{Bind, begun, closed, numbered}
use Rattle.context.specs.Block.{BlockSteps}

back : (n : Nesting) → shallower (counted (deeper n)) ≡ counted n
back n = let q : n.depth + 1 - 1 ≡ n.depth = omega arith in ap (λ x. counted (record { depth = x; match_split = n.match_split; in_closure = n.in_closure })) q

-- the steps one by one: `begin_block` to d, `set_ref` to m, `bind` to n, `count_split` to k, `end_block` to r
module _ (s : BodyContext) {d m n : BodyContext} {b b' : ℕ} {is_ref : Bool} (opened : d ≡ begun s) (marked : SetRef d b is_ref m) (bound : Bind m b' n) where
  nested : n.nesting ≡ deeper s.nesting
  nested = bound.nesting ∙ marked.same.nesting ∙ ap (λ x. x.nesting) opened

  pub split_kept : n.nesting.match_split ≡ s.nesting.match_split
  split_kept = ap (λ x. x.match_split) nested

  module _ {k : BodyContext} (counts : k ≡ numbered n) where
    still_nested : k.nesting ≡ counted (deeper s.nesting)
    still_nested = ap (λ x. x.nesting) counts ∙ ap counted nested

    pub one_deeper : k.nesting.depth ≡ s.nesting.depth + 1
    one_deeper = ap (λ x. x.depth) still_nested

    pub in_a_row : {r : BodyContext} {scope : List Bool} → set_of scope ≡ set_of s.is_bound → r ≡ closed k scope → BlockSteps s b is_ref r
    in_a_row {scope = scope} entered ended = record {
      refs = ap (λ x. set_of x.is_ref) (ended ∙ ap (λ x. closed x scope) counts) ∙ ap set_of bound.refs ∙ marked.refs ∙ ap (λ x. cond is_ref (insert (set_of x.is_ref) b) (set_of x.is_ref)) opened;
      bound = ap (λ x. set_of x.is_bound) ended ∙ entered;
      nesting = ap (λ x. x.nesting) ended ∙ ap shallower still_nested ∙ back s.nesting;
    }

-- the steps fix the state
pub one_state : {s r t : BodyContext} {b : ℕ} {is_ref : Bool} → BlockSteps s b is_ref r → BlockSteps s b is_ref t → r ≡ t
unfolding set_of
one_state p q = λ i. record {
  is_ref = (p.refs ∙ sym q.refs) i;
  is_bound = (p.bound ∙ sym q.bound) i;
  nesting = (p.nesting ∙ sym q.nesting) i;
}
