use Rattle.literal.proofs.Escapes.{Escaping}
use Rattle.literal.proofs.quote.put_escaped.Given as goal

abbrev pub invariant-loop-i : goal.invariant-loop-i
invariant-loop-i l = Escaping l.text l.i l.first l.initial.w l.w
