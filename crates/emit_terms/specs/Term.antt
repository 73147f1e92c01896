-- A generated term in the buffers, and its parts one after the other. Assumes nothing.
use Rattle.std.specs.Prelude as code
use Rattle.std.specs.Prelude.{ℕ, ◌+◌, ◌≤◌, ◌<◌, ◌≡◌, refl, Bool, true, false, cond, ◌&&◌, List, [], ◌∷◌, ◌++◌, length, get_or, ltb, Some, None}
use Rattle.std.proofs.Common.{sym, ap, ◌∙◌, arith, ltb-true, ltb-false}
use Rattle.text.specs.Writes.{Writes, writes_nil, writes_then}
use Rattle.text.specs.declared.sink.Sink.{Sink}
use Rattle.plan.specs.Plan as plan
use Rattle.plan.specs.Plan.{Environment, Term, Generated}
use Rattle.plan.specs.Row.{Row, level}
use Rattle.plan.specs.Lookup.{term_at}
use Rattle.plan.specs.Refusal.{every}
use Rattle.codegen.specs.ReturnKind.{ReturnKind, Iterator, Option, Plain, by_return_kind}
use Rattle.codegen.specs.Sema as sema
use Rattle.codegen.specs.Sema.{constructor_sig}
use Rattle.codegen.specs.Block as block
use Rattle.codegen.specs.Block.{State, Part, walk, text_of, odds_of}
use Rattle.codegen.specs.Writer.{Marks}
use Rattle.codegen.specs.Terms.{argument_refs, signature, ends_in_return, term_end, body_of, no_marks, start, splits, term_parts, all_parts, parts}
use Rattle.rows.specs.View.{nth, flagged, term_of, options_of, block_of}
use Rattle.layout.specs.View.{plan_of_tables}
use Rattle.view.specs.Tables.{table_rows, plan_in}
use Rattle.view.specs.Buffers.{words_of, rows_of, env_of, bindings_in, plan_of}
use Rattle.view.specs.declared.buffers.Plan.{Plan}
use Rattle.view.proofs.Plans.{table_of, term_is, environment_is}
use Rattle.splitting.specs.Marks.{with_refs}
use Rattle.emits.specs.Place.{place, place_here, place_over, count_over}
use Rattle.emits.specs.Marks.{set_of}
use Rattle.emits.specs.Rows.{run_parts, run_walk}
use Rattle.sema.specs.Holds.{VariantsIndexed}
use Rattle.sema.specs.Signature.{return_kind_told, sig_told}
use Rattle.sema.specs.declared.signature.ExternalSig.{ExternalSig}
use Rattle.context.specs.Context.{New, SameButRefs}
use Rattle.context.specs.declared.body_context.BodyContext.{BodyContext}
use Rattle.constructors.specs.Lines.{head_text, arguments_text, result_text, signature_is, signature_odds}
use Rattle.constructors.specs.Ending.{end_text, end_is, end_odds}
use Rattle.constructors.specs.Arguments as argument
use Rattle.schedule_rules.specs.Passes.{Each, every_each}
use Rattle.checks.specs.Terms as generated
use Rattle.checks.specs.Tests.{tables_at, generated_of}
use Rattle.checks.specs.declared.tables.GeneratedTables.{GeneratedTables}
use Rattle.checks.proofs.Every.{every_map, every_same}
use Rattle.row_frames.specs.Rows.{Shallow, shallow_rows}
use Rattle.view.specs.BlockRows.{level_is}
use Rattle.body.specs.Told.{env_in, bindings_of, rows_in, body_told, splits_above}
use Rattle.body.specs.Walks.{WritesParts, parts_then, parts_text, WritesWalk}
use Rattle.body.specs.declared.Body.{Body}
use Rattle.blocks.specs.Middle.{standing}
use Rattle.blocks.specs.Row.{Splitting}
use Rattle.blocks.specs.Loop.{BlockWritten}
use Rattle.emit_terms.specs.Accepted.{TermFits, PlanFits}
use Rattle.emit_terms.specs.Told.{OptionsTold, Started, below_eight, block_in, term_in, BodyWritten}
use Rattle.emit_terms.specs.declared.options.Options.{Options}

-- THE OPTIONS in the buffers

module _ (p : Plan) where
  pub options_told : (r : ℕ) {log : Bool} {threshold : code.Option ℕ} → words_of p r ≡ get_or (rows_of p 0) 0 [] → log ≡ flagged (nth (words_of p r) 1) → threshold ≡ cond (flagged (nth (words_of p r) 2)) (Some (nth (words_of p r) 3)) None → OptionsTold (plan_of p).options (record { log = log; threshold = threshold })
  unfolding plan_in plan_of_tables options_of
  options_told r w a b = rw (table_of p.words.now p.rows.now p.tables.now 0, ← w) (record { logs = sym a; above = sym b })

-- THE WALK'S PARTS

pub walk_parts : {env : Environment} {c : block.Body} {sp : ℕ → Bool} {s : State} {i : ℕ} {rs : List Row} {w : Sink} {q : Marks} {w' : Sink} → WritesWalk env c sp s i rs w q w' → WritesParts env (walk c sp (with_refs s q) i rs) w w'
unfolding run_walk run_parts
walk_parts {env} {c} {sp} {s} {i} {rs} {w} {q} {w'} x = record { buffer = x.buffer; size = x.size; end = x.end; parts = record { is = x.walk.is ∙ by_test (ltb w.at w.end) (ltb w.odd w.end) refl refl } }
  where
    by_test : (a b : Bool) → ltb w.at w.end ≡ a → ltb w.odd w.end ≡ b
        → run_walk w.end env c sp s i rs (place w.end w.out.now w.at w.odd q) ≡ run_parts {S = Unit {0}} w.end env (walk c sp (with_refs s q) i rs) tt (place w.end w.out.now w.at w.odd tt)
    by_test true true h g = rw (place_here w.end w.out.now w.at w.odd q (ltb-true w.at w.end h) (ltb-true w.odd w.end g), place_here {S = Unit {0}} w.end w.out.now w.at w.odd tt (ltb-true w.at w.end h) (ltb-true w.odd w.end g))
    by_test false b h g = rw (place_over w.end w.out.now w.at w.odd q (ltb-false w.at w.end h), place_over {S = Unit {0}} w.end w.out.now w.at w.odd tt (ltb-false w.at w.end h))
    by_test true false h g = rw (count_over w.end w.out.now w.at w.odd q (ltb-false w.odd w.end g), count_over {S = Unit {0}} w.end w.out.now w.at w.odd tt (ltb-false w.odd w.end g))

-- A TERM IN THE BUFFERS

module _ (p : Plan) (t : ℕ) {first last : ℕ} where
  bindings_are : first ≡ get_or p.tables.now t 0 → last ≡ get_or p.tables.now (t + 1) 0 → argument.bindings_in p last first ≡ bindings_in p t
  unfolding table_rows
  bindings_are h g = rw (h, g)

  pub started : {sig : ExternalSig} {new context : BodyContext} → New new → SameButRefs new context → first ≡ get_or p.tables.now t 0 → last ≡ get_or p.tables.now (t + 1) 0
      → set_of context.is_ref ≡ argument_refs (env_of p) (argument.bindings_in p last first) 0 (sig_told (env_of p) sig).param_tys (set_of new.is_ref) → Started p t sig context
  started n m a b r = record { refs = r ∙ rw (bindings_are a b, n.refs); bound = ap set_of m.bound ∙ n.bound; nesting = m.nesting ∙ n.nesting }

-- the words of a term's row
module _ (p : Plan) (n : ℕ) where
  pub term_name : nth (get_or (rows_of p 6) n []) 0 ≡ (term_at (env_of p) n).name
  unfolding term_of
  term_name = ap (λ (m : Term). m.name) (sym (term_is p.words.now p.rows.now p.tables.now p.bytes.now n))

  pub term_pos : nth (get_or (rows_of p 6) n []) 1 ≡ (term_at (env_of p) n).pos
  unfolding term_of
  term_pos = ap (λ (m : Term). m.pos) (sym (term_is p.words.now p.rows.now p.tables.now p.bytes.now n))

-- the levels in the words of the rows
pub few_rows : (p : Plan) (t : ℕ) → every below_eight (block_in p t) ≡ every (λ ws. ltb (nth ws 0) 8) (rows_of p t)
few_rows p t = every_map below_eight block_of (rows_of p t) ∙ every_same _ _ (λ ws. ap (λ (l : ℕ). ltb l 8) (level_is ws)) (rows_of p t)

-- THE BLOCK, with a place more than its levels

arguments_are : (x : sema.ExternalSig) (m : Term) → x ≡ constructor_sig m → x.param_tys ≡ m.arg_tys
unfolding constructor_sig
arguments_are x m h = ap (λ (x : sema.ExternalSig). x.param_tys) h

module _ {b : Body} {block : ℕ} {sig : ExternalSig} {s : BodyContext} {first last : ℕ} {w w' : Sink} (st : Started b.bindings.plan.now b.bindings.table sig s) (q : rows_in b last first ≡ block_in b.bindings.plan.now block) where
  body_written : (m : ℕ) → m ≤ 64 → (Each (λ r. level r < 64) (block_in b.bindings.plan.now block) → Each (λ r. level r < m) (block_in b.bindings.plan.now block)) → BlockWritten b first last (m + 1) s.is_ref s.is_bound w w' → BodyWritten b block sig w w'
  unfolding start with_refs standing
  body_written m u e x = record {
    same = x.same;
    is = λ sp n v f y h.
        let shallow : Shallow b.bindings.plan.now.words.now b.bindings.plan.now.rows.now first last (m + 1) = shallow_rows _ _ first last m u (rw q (e f.shallow)) in
        let refs : set_of s.is_ref ≡ argument_refs (env_in b) (bindings_of b) 0 (term_at (env_in b) n).arg_tys no_marks = st.refs ∙ ap (λ (ts : List ℕ). argument_refs (env_in b) (bindings_of b) 0 ts no_marks) (arguments_are _ _ h) in
        walk_parts (rw (q, st.bound, refs) at (x.is sp (record { indexed = v; lower = f.lower }) y shallow));
  }

  pub few_written : every below_eight (block_in b.bindings.plan.now block) ≡ true → BlockWritten b first last 9 s.is_ref s.is_bound w w' → BodyWritten b block sig w w'
  few_written t = body_written 8 (omega arith) (λ f. every_each below_eight (λ r. level r < 8) (λ r. ltb-true (level r) 8) (block_in b.bindings.plan.now block) t)

  pub all_written : BlockWritten b first last 65 s.is_ref s.is_bound w w' → BodyWritten b block sig w w'
  all_written = body_written 64 (omega arith) (λ f. f)

-- THE PARTS OF A TERM

ret_is : (m : Term) → get_or (constructor_sig m).ret_tys 0 0 ≡ m.ret_ty
unfolding constructor_sig
ret_is m = refl

module _ (env : Environment) (m : Term) (sig : sema.ExternalSig) (name ty : ℕ) (q : sig ≡ constructor_sig m) (n : name ≡ m.name) (r : ty ≡ get_or sig.ret_tys 0 0) where
  signature_bytes : head_text env name sig.func_name ++ (arguments_text env 0 sig.param_tys ++ result_text env sig.ret_kind ty) ≡ text_of env (signature env m)
  signature_bytes =
      let t : ty ≡ m.ret_ty = r ∙ ap (λ (x : sema.ExternalSig). get_or x.ret_tys 0 0) q ∙ ret_is m in
      rw (t, q, n) (sym (signature_is env m))

  pub signature_written : {w w₁ w₂ w₃ : Sink} → Writes (head_text env name sig.func_name) w w₁ → Writes (arguments_text env 0 sig.param_tys) w₁ w₂ → Writes (result_text env sig.ret_kind ty) w₂ w₃ → Writes (text_of env (signature env m)) w w₃
  signature_written x y z = rw (← signature_bytes) (writes_then x (writes_then y z))

pub end_written : (env : Environment) (m : Term) (rs : List Row) (returns : Bool) (kind : ReturnKind) (name pos : ℕ) → returns ≡ ends_in_return false rs → (constructor_sig m).ret_kind ≡ kind → name ≡ m.name → pos ≡ m.pos
    → {w w' : Sink} → Writes (end_text env returns kind name pos) w w' → Writes (text_of env (term_end m rs)) w w'
end_written env m rs returns kind name pos a b c d x = rw (end_is env m rs, ← a, b, ← c, ← d) x

-- which arms split
splits_by : (k : ReturnKind) (b : Bool) (n w : ℕ) → b && (by_return_kind k true false false && ltb n w) ≡ splits_above (by_return_kind k (cond b (Some n) None) None None) w
unfolding by_return_kind
splits_by Iterator true n w = refl
splits_by Iterator false n w = refl
splits_by Option true n w = refl
splits_by Option false n w = refl
splits_by Plain true n w = refl
splits_by Plain false n w = refl

module _ {o : plan.Options} {x : Options} (u : OptionsTold o x) (b : Body) (n block : ℕ) (sig : ExternalSig) (q : sig_told (env_in b) sig ≡ constructor_sig (term_at (env_in b) n)) (k : b.ret_kind ≡ sig.ret_kind) where
  kind_is : return_kind_told b.ret_kind ≡ (constructor_sig (term_at (env_in b) n)).ret_kind
  kind_is = ap return_kind_told k ∙ ap (λ (y : sema.ExternalSig). y.ret_kind) q

  told_body : b.log ≡ x.log → b.term_name ≡ (term_at (env_in b) n).name → body_told b ≡ body_of o (env_in b) (term_in b n block)
  unfolding body_of
  told_body l m = rw (kind_is, l, ← u.logs, m) refl

  splitting : b.threshold ≡ by_return_kind (return_kind_told sig.ret_kind) x.threshold None None → Splitting (splits o (env_in b) (term_in b n block)) b.threshold
  unfolding splits
  splitting h = record { is = λ w. rw (h, ← u.above, ← kind_is, k) (splits_by _ o.split o.threshold w) }

  -- the signature, the block, the last lines
  pub term_written : {w w₁ w₂ w₃ : Sink} → b.log ≡ x.log → b.term_name ≡ (term_at (env_in b) n).name → b.threshold ≡ by_return_kind (return_kind_told sig.ret_kind) x.threshold None None
      → VariantsIndexed b.bindings.plan.now → TermFits (term_in b n block)
      → Writes (text_of (env_in b) (signature (env_in b) (term_at (env_in b) n))) w w₁ → BodyWritten b block sig w₁ w₂
      → ((constructor_sig (term_at (env_in b) n)).ret_kind ≡ return_kind_told b.ret_kind → b.term_name ≡ (term_at (env_in b) n).name → Writes (text_of (env_in b) (term_end (term_at (env_in b) n) (block_in b.bindings.plan.now block))) w₂ w₃)
      → WritesParts (env_in b) (term_parts o (env_in b) (term_in b n block)) w w₃
  unfolding term_parts
  term_written l m h v f y z e =
      parts_then (parts_text (signature_odds (env_in b) _) y)
      (parts_then (rw (told_body l m) at (z.is (splits o (env_in b) (term_in b n block)) n v f (splitting h) q)) (parts_text (end_odds _ (block_in b.bindings.plan.now block)) (e (sym kind_is) m)))

-- THE LOOP over the terms

-- what is left to write, from term i on, ends where the whole does
abbrev pub TermsWritten : Plan → List Generated → Sink → Sink → Type 0
TermsWritten p gs = WritesParts (env_of p) (all_parts (plan_of p).options (env_of p) gs)

abbrev pub TermsLeft : Plan → Sink → ℕ → Sink → Type 0
TermsLeft p = generated.TermsLeft p (Each TermFits) (TermsWritten p)

module _ {p : Plan} {w₀ : Sink} where
  pub terms_start : PlanFits (plan_of p) → TermsLeft p w₀ 0 w₀
  terms_start f = generated.terms_start f.terms

  module _ {i : ℕ} {w : Sink} (l : TermsLeft p w₀ i w) where
    pub terms_next : {w' : Sink} {g : GeneratedTables} → i < length (plan_of p).generated → g ≡ tables_at i → (TermFits (generated_of p g) → WritesParts (env_of p) (term_parts (plan_of p).options (env_of p) (generated_of p g)) w w') → TermsLeft p w₀ (i + 1) w'
    unfolding all_parts
    terms_next h at x = generated.terms_next l at h (λ gs f. (f.1, λ w₂ y. parts_then (x f.0) y))

    pub terms_done : length (plan_of p).generated ≤ i → WritesParts (env_of p) (parts (plan_of p)) w₀ w
    unfolding all_parts odds_of text_of
    terms_done h = rw (environment_is p.words.now p.rows.now p.tables.now p.bytes.now) (generated.terms_done l h (parts_text refl writes_nil))
