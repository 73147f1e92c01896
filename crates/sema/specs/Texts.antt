-- The plan's own texts, by the table in which they stand. Assumes nothing: these are definitions.
use Rattle.std.specs.Prelude.{ℕ, List, [], get_or}
use Rattle.plan.specs.Plan.{Environment}
use Rattle.codegen.specs.Piece.{sym_text, pos_text}
use Rattle.sema.specs.declared.texts.Text.{Text}
use Rattle.sema.specs.declared.texts.Text.TheVariants as text

abbrev pub text_in : Environment → Text → ℕ → List ℕ
text_in env text.File n = get_or env.files n []
text_in env text.Sym n = sym_text env n
text_in env text.Pos n = pos_text env n

-- the number of its table
abbrev pub text_table : Text → ℕ
text_table text.File = 1
text_table text.Sym = 2
text_table text.Pos = 3
