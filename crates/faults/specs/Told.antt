-- What the declared type of a row's faults says in the definition's terms. Assumes nothing: this is a definition.
use Rattle.schedule_rules.specs.Faults as rules
use Rattle.faults.specs.declared.check.Letters.{Letters}

abbrev pub letters_told : Letters → rules.Letters
letters_told f = record { a = f.a; b = f.b; c = f.c }
