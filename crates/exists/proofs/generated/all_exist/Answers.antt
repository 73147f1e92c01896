use Rattle.std.proofs.Common.{rules, ◌≡◌, sym, ◌∙◌}
use Rattle.plan.specs.Refusal.{all_exist}
use Rattle.view.specs.Buffers.{plan_of}
use Rattle.exists.proofs.Bytes.{exist_any}
use Rattle.exists.proofs.Rows.{exist_tests}
use Rattle.exists.proofs.generated.all_exist.Goals as goal

pub returns-then-all_rows-3-clause-any : goal.returns-then-all_rows-3-clause-any
returns-then-all_rows-3-clause-any c = λ bytes.
    let own : c.all_generated.result ≡ all_exist (plan_of c.args.indexed.now.plan) = search (rules, exist_tests) in
    own ∙ sym (exist_any c.args.indexed.now.plan bytes)
