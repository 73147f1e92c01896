-- What fields read out of the buffers say in the definition's terms. Assumes nothing: these are definitions.
use Rattle.plan.specs.Plan as plan
use Rattle.view.specs.Told.{fields_told}
use Rattle.sema.specs.declared.fields.Fields.{Fields}

-- a shape with the words of its list
abbrev pub fields_read : Fields → plan.Fields
fields_read f = fields_told f.shape f.list.now
