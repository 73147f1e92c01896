use Rattle.std.specs.Prelude.{drop}
use Rattle.view.specs.Buffers.{env_of}
use Rattle.codegen.specs.Items.{file_lines}
use Rattle.emits.specs.Sinks.{Left}
use Rattle.emit_items.proofs.header.file_lines.Given as goal

abbrev pub invariant-loop-i : goal.invariant-loop-i
invariant-loop-i l =
    let env = env_of l.plan in
    Left env 0 (file_lines 0 env.files) l.initial.w (file_lines l.i (drop l.i env.files)) l.w
