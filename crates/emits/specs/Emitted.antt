-- The laws by which a function that writes into a `Sink` is proved: of pieces, and of what is written with the marks of references.
use Rattle.emits.specs.Sinks.{shows_none, shows_fix, shows_sym, shows_type, shows_num, shows_var, shows_brace, shows_unbrace, shows_append}
use Rattle.emits.specs.Runs.{emits_say, emits_then, emits_mark}

pub ruleset shown = (shows_none, shows_fix, shows_sym, shows_type, shows_num, shows_var, shows_brace, shows_unbrace, shows_append)

pub ruleset emitted = (shown, emits_say, emits_then, emits_mark)
