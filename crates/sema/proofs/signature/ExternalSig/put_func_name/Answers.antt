use Rattle.codegen.specs.Sema.{func_name_of}
use Rattle.sema.proofs.signature.ExternalSig.put_func_name.Goals as goal

pub returns-in-Internal : goal.returns-in-Internal
unfolding func_name_of
returns-in-Internal c = λ d. rw c.in-Internal.is (c.put_internal_name.ensures d)
