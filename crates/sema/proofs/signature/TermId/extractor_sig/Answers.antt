use Rattle.rows.specs.View.{term_of}
use Rattle.view.specs.Buffers.{words_of}
use Rattle.sema.proofs.Laws.{told_extractor}
use Rattle.sema.proofs.signature.TermId.extractor_sig.Goals as goal

pub returns : goal.returns
unfolding term_of
returns c = rw (← c.row-row.ensures) (told_extractor (term_of (words_of c.args.plan.now c.row-row.result)) _ _ c.function_kind_at-func.ensures (rw (← c.flag.ensures, ← c.is_infallible-infallible.ensures, ← c.flag-2.ensures) c.new.ensures), c.function_kind_at-func.ensures)
