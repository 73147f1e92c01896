use Rattle.std.proofs.Common.{◌≡◌, ℕ, drop}
use Rattle.rows.specs.View.{patterns_in}
use Rattle.codegen.specs.Pattern.{field_patterns}
use Rattle.view.specs.Buffers.{env_of}
use Rattle.emits.specs.Runs.{Rest}
use Rattle.emits.specs.Marks.{set_of}
use Rattle.sema.specs.Fields.{fields_read}
use Rattle.pattern.proofs.fields.field_patterns.Given as goal

abbrev pub invariant-loop-i : goal.invariant-loop-i
invariant-loop-i l =
    let env = env_of l.plan in
    let f = fields_read l.f in
    let ws = l.list in
    ((n : ℕ) → Rest env l.depth (field_patterns env f 0 (patterns_in ws)) (record l.initial.w { odd = n }) (set_of l.initial.refs) (field_patterns env f l.i (patterns_in (drop l.i ws))) (record l.w { odd = n }) (set_of l.refs)) × (l.w.odd ≡ l.initial.w.odd)
