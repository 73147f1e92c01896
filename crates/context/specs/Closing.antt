-- The bytes that begin and end blocks and closures, by their depth. Assumes nothing: these are definitions.
use Rattle.std.specs.Prelude as code
use Rattle.std.specs.Prelude.{ℕ, suc, Bool, cond, List, [], ◌∷◌, ◌++◌, Some, None}
use Rattle.std.proofs.Math.Option.{Option, some, none}
use Rattle.text.specs.Codes.{codes}
use Rattle.text.specs.Digits.{decimal}
use Rattle.codegen.specs.Piece.{indent}

-- the number of a block's closure, if it has one
abbrev pub closure_told : code.Option ℕ → Option ℕ
closure_told None = none
closure_told (Some n) = some n

-- a line, d deep
unfoldable pub line_of : ℕ → List ℕ → List ℕ
line_of d t = indent d ++ (t ++ (10 ∷ []))

-- `iter_overflow_action`, inside a closure or not
unfoldable pub overflow_action : Bool → List ℕ
overflow_action b = cond b (codes "return true;") (codes "return;")

unfoldable pub call_bytes : Bool → ℕ → List ℕ
call_bytes b n = codes ")() { " ++ (overflow_action b ++ (codes " } // __isle_arm_" ++ decimal n))

unfoldable pub opening_text : ℕ → Bool → List ℕ
opening_text d b = cond b (line_of d (codes "if (|| -> bool {")) []

unfoldable pub closure_text : ℕ → Bool → Option ℕ → List ℕ
closure_text d b none = []
closure_text d b (some n) = line_of (suc d) (codes "false") ++ (line_of d (codes "}") ++ line_of d (call_bytes b n))

unfoldable pub catchall_text : ℕ → Bool → List ℕ
catchall_text d b = cond b (line_of d (codes "_ => {}")) []

unfoldable pub brace_text : ℕ → List ℕ
brace_text d = indent d ++ codes "}"

unfoldable pub block_text : ℕ → Bool → Option ℕ → Bool → List ℕ
block_text d b k several = closure_text (suc d) b k ++ (catchall_text (suc d) several ++ line_of d (codes "}"))
