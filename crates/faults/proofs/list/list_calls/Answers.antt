use Rattle.std.proofs.Common.{refl, ◌∙◌}
use Rattle.faults.proofs.RowLaws.{listing_next, listing_names, listing_faults}
use Rattle.faults.proofs.list.list_calls.Goals as goal

pub loop-word-preserved : goal.loop-word-preserved
loop-word-preserved c =
    let member = c.bind_member-found.ensures in (
      member.ready,
      listing_next (rw c.list-word-items.ensures at c.loop-word-test.true) c.loop-word.invariant.1 (rw c.list-word-items.ensures at member.names) (rw c.list-word-items.ensures at member.found) refl,
      (member.same.0 ∙ c.loop-word.invariant.2.0, member.same.1 ∙ c.loop-word.invariant.2.1),
    )

pub returns-clause-names : goal.returns-clause-names
returns-clause-names c = listing_names (rw c.list-word-items.ensures at c.loop-word-test.false) c.loop-word.invariant.1

pub returns-clause-found : goal.returns-clause-found
returns-clause-found c = listing_faults (rw c.list-word-items.ensures at c.loop-word-test.false) c.loop-word.invariant.1
