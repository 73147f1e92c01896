use mathlib.Core.Path.{◌∙◌}
use lib.Dec.{leb}
use lib.ListN.{length}
use Rattle.std.proofs.Common.{rules}
use Rattle.std.proofs.lemmas.Iterator.{YieldsList-from_slice}
use Rattle.std.proofs.lemmas.Iterator.Search.{all_from_yields_List}
use Rattle.view.specs.Buffers.{rows_of}
use Rattle.checks.proofs.Counts.{counts_tests}
use Rattle.checks.proofs.most.counts_within.Goals as goal

pub returns : goal.returns
returns c = all_from_yields_List (λ x. leb (length (rows_of c.args.plan.now x.0)) x.1) _ _ _ c.all.ensures.ran (YieldsList-from_slice _ c.iter.ensures.rest) (λ x b q k. search rules) ∙ counts_tests c.args.plan.now
