-- What a type read out of the buffers says in the definition's terms, and a parameter's type as it is written. Assumes nothing: these are
-- definitions.
use Rattle.std.specs.Prelude.{ℕ, cond, List, [], ◌++◌}
use Rattle.text.specs.Codes.{codes}
use Rattle.plan.specs.Plan as plan
use Rattle.plan.specs.Lookup.{type_at}
use Rattle.codegen.specs.Piece.{type_text}
use Rattle.codegen.specs.Sema.{is_ref}
use Rattle.view.specs.Told.{type_told}
use Rattle.sema.specs.declared.types.TypeRow.{TypeRow}

-- a type with the words of its list, which has a struct's fields
abbrev pub type_read : TypeRow → plan.TypeData
type_read t = type_told t.ty t.list.now

-- the name of type n, after `&` where a value of the type is passed by reference
abbrev pub param_text : plan.Environment → ℕ → List ℕ
param_text env n = cond (is_ref env n) (codes "&") [] ++ type_text env (type_at env n)
