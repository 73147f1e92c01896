use Rattle.std.proofs.Common.{ℕ, true, eqb, drop, ap, ◌+◌, ◌≡◌, refl, sym, ◌∙◌, arith}
use Rattle.text.specs.Split.{split}
use Rattle.rows.specs.Table.{table_number}
use Rattle.layout.specs.Scan.{sort_at, add, scan}
use Rattle.layout.proofs.Laws.{scan_empty, scan_row, scan_first, scan_other, scan_inside, end_text, end_inside, first_long, line_length}
use Rattle.layout.proofs.Filling.{leads_none, end_leads, put_leads}
use Rattle.layout.proofs.Buffers.put_table.Goals as goal

pub returns-in_err-e-clause-table : goal.returns-in_err-e-clause-table
returns-in_err-e-clause-table c = rw c.from_residual.ensures (end_text _ _ _ _ refl c.in_err-e.ensures.none _ (λ q. absurd (omega (arith, c.in_err-e.ensures.none))))

pub returns-then-not-equal-clause-table : goal.returns-then-not-equal-clause-table
returns-then-not-equal-clause-table c = let e = c.in_ok-e.ensures.place in
    scan_other _ _ _ _ e.0 e.1 (rw (c.names.ensures, c.table_at-table.ensures) at (sym c.equal.ensures ∙ c.if-not-equal.true))

pub loop-e-init : goal.loop-e-init
loop-e-init c =
    let e = c.in_ok-e.ensures.place in
    let named = rw (c.names.ensures, c.table_at-table.ensures) at (sym c.equal.ensures ∙ c.if-not-equal.false) in
    let long = first_long _ _ named in
    record {
      same = (refl, refl, refl, refl, refl, refl);
      room = record { few = omega arith; inside = omega arith; words = omega arith; rows = omega arith; tables = omega arith; word_room = omega arith; row_room = omega arith; table_room = omega arith };
      table = refl;
      begun = omega (arith, long);
      later = omega arith;
      leads = λ r o x m t. rw (scan_first _ _ _ _ e.0 e.1 named) t;
    }

pub returns-in_err-e-2-clause-table : goal.returns-in_err-e-2-clause-table
returns-in_err-e-2-clause-table c = rw c.from_residual-in_err-e-2.ensures (leads_none c.args.self.now _ c.loop-e.self _ c.loop-e.invariant.leads (end_inside _ _ _ _ refl c.in_err-e-2.ensures.none))

pub returns-then-e-at-clause-table : goal.returns-then-e-at-clause-table
returns-then-e-at-clause-table c =
    let p = c.in_ok-e-2.ensures.place in
    let e = c.end_table.ensures.ended in (
      omega (arith, p.1),
      record { few = omega arith; inside = omega (arith, p.1); words = omega arith; rows = omega arith; tables = omega arith; word_room = omega arith; row_room = omega arith; table_room = omega arith },
      λ r o x m t. c.loop-e.invariant.leads r o x m (rw (scan_empty _ _ _ _ p.0 p.1 c.if-e-at.true) (end_leads _ _ e (omega arith) _ _ r o x m t)),
    )

pub returns-in_err-put_row-clause-table : goal.returns-in_err-put_row-clause-table
unfolding add
returns-in_err-put_row-clause-table c =
    let e = c.in_ok-e-2.ensures.place in
    rw c.from_residual-in_err-put_row.ensures (leads_none c.args.self.now _ c.loop-e.self _ c.loop-e.invariant.leads
    (scan_row _ _ _ _ e.0 e.1 c.if-e-at.false ∙ rw (c.loop-e.invariant.table, ← c.table_at-table.ensures, c.in_err-put_row.ensures.row) refl))

pub loop-e-preserved : goal.loop-e-preserved
loop-e-preserved c =
    let e = c.in_ok-e-2.ensures.place in
    let p = c.in_ok-put_row.ensures.row in
    let few = p.few in
    let sorted : table_number c.table_at-table.result ≡ sort_at c.loop-e.self.filled.tables = c.table_at-table.ensures ∙ ap sort_at (sym c.loop-e.invariant.table) in
    let len = line_length c.args.s.now c.loop-e.at _ c.loop-e.self.filled.tables e.0 e.1 in
    record {
      same = (cc, cc, cc, omega arith, omega arith, omega arith);
      room = record { few = omega arith; inside = omega arith; words = omega arith; rows = omega arith; tables = omega arith; word_room = omega arith; row_room = omega arith; table_room = omega arith };
      table = omega arith;
      begun = omega arith;
      later = omega arith;
      leads = λ r o x m t. c.loop-e.invariant.leads r o x m (rw (
        scan_row _ _ _ _ e.0 e.1 c.if-e-at.false,
        ← sorted,
        ap (λ (i : ℕ). scan i true (c.in_ok-e-2.e + 1) (split (eqb 10) (drop (c.in_ok-e-2.e + 1) c.args.s.now))) (sym p.table_end),
      )
          (put_leads c.loop-e.self c.put_row.new.self _ _ p (omega arith) _ (scan_inside _ _ _) r o x m t));
    }
