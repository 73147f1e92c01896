-- The digits that were filled into an array from its end. Assumes nothing: this is a definition.
use Rattle.std.specs.Prelude.{ℕ, List, drop}
use Rattle.text.specs.declared.digits.Digits.{Digits}

abbrev pub filled : Digits → List ℕ
filled d = drop d.first d.text
