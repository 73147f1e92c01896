-- A literal without its suffix. Assumes nothing: this is a definition; its laws stand in proofs/CastLaws.antt.
use Rattle.std.specs.Prelude.{ℕ, ◌%◌, ◌^◌, cond, List, ◌++◌}
use Rattle.text.specs.Codes.{codes}
use Rattle.text.specs.Digits.{hexadecimal, signed}
use Rattle.literal.specs.declared.builtin_type.IntType.{IntType}
use Rattle.literal.specs.BuiltinType.{is_signed}
use Rattle.literal.specs.Literal.{written_bits}

-- the literal without its suffix
abbrev pub number_text : IntType → ℕ → List ℕ
number_text t v =
    let w = written_bits t in
    let cast = v % 2 ^ w in
    cond (is_signed t) (signed w cast) (codes "0x" ++ hexadecimal cast)
