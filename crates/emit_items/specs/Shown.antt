-- Ends of lines, put alone or at once with what stands before them; and the laws by which most writers are proved. Assumes nothing.
use Rattle.std.specs.Prelude.{◌≡◌, true, List, [], ◌∷◌, ◌++◌}
use Prim.Native.String.{String}
use Rattle.text.specs.Codes.{codes}
use Rattle.text.specs.Sink.{spaces}
use Rattle.text.specs.Writes.{Writes}
use Rattle.text.specs.declared.sink.Sink.{Sink}
use Rattle.plan.specs.Plan.{Environment}
use Rattle.codegen.specs.Piece.{Piece, plain, fix, break, render, bytes, indent}
use Rattle.emits.specs.Sinks.{Shows, shows_none, shows_piece, shows_fix, shows_file, shows_num, shows_type, shows_append, shows_first}

-- a text and the end of its line
pub shows_line : {env : Environment} {ps : List Piece} {t : String} {h : plain (codes t) ≡ true} {w w₁ w' : Sink} → Writes (codes t ++ (10 ∷ [])) w w₁ → Shows env 0 ps w₁ w' → Shows env 0 (fix t h ∷ break 0 ∷ ps) w w'
unfolding render bytes indent spaces
shows_line a b = shows_first 2 a b

-- the end of a line alone
pub shows_newline : {env : Environment} {ps : List Piece} {w w₁ w' : Sink} → Writes (10 ∷ []) w w₁ → Shows env 0 ps w₁ w' → Shows env 0 (break 0 ∷ ps) w w'
unfolding bytes indent spaces
shows_newline a b = shows_piece a b

pub ruleset shown = (shows_none, shows_fix, shows_file, shows_num, shows_type, shows_line, shows_newline, shows_append)
