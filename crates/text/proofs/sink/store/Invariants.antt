use Rattle.std.proofs.Common.{take}
use Rattle.text.specs.SinkLaws.{Stores}
use Rattle.text.proofs.sink.store.Given as goal

abbrev pub invariant-loop-i : goal.invariant-loop-i
invariant-loop-i l = Stores l.initial.out l.at (take l.n l.src) l.i l.out
