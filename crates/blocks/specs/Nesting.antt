-- How the nesting goes with the open frames, where a row opens a frame and where a frame closes. Assumes nothing.
use Rattle.std.specs.Prelude.{ℕ, zero, suc, ◌+◌, ◌-◌, ◌≡◌, Bool, true, false, cond, ltb, List, ◌∷◌, length}
use Rattle.std.proofs.Common.{sym, ap, ◌∙◌, arith, zero-add, lt-ltb, le-ltb}
use Rattle.std.proofs.Math.Option.{Option}
use Rattle.codegen.specs.Block.{Frame, closure_count, closures, numbered}
use Rattle.context.specs.declared.body_context.Nesting.{Nesting}
use Rattle.body.specs.Told.{StandsIn}

-- a frame opens, and a closure in it if it splits
pub record Begun (n : Nesting) (splits : Bool) (n' : Nesting) : Type 0 where
  pub depth : n'.depth ≡ cond splits (suc (suc n.depth)) (suc n.depth)
  pub split : n'.match_split ≡ cond splits (suc n.match_split) n.match_split
  pub closure : n'.in_closure ≡ cond splits true n.in_closure

-- a frame closes, around which d are open, and the closure in it, if there is one
pub record Ended (n : Nesting) (d : ℕ) (k : Option ℕ) (n' : Nesting) : Type 0 where
  pub depth : n'.depth ≡ n.depth - 1 - closure_count k
  pub split : n'.match_split ≡ n.match_split
  pub closure : n'.in_closure ≡ ltb (d + 1) n'.depth

-- the depth and the number of open frames say whether a closure is around
closure_flag : (d k depth : ℕ) → depth ≡ k + suc d → ltb (d + 1) depth ≡ ltb 0 k
closure_flag d zero depth h = le-ltb (d + 1) depth (omega arith)
closure_flag d (suc k) depth h = lt-ltb (d + 1) depth (omega arith) ∙ sym (lt-ltb 0 (suc k) (omega arith))

pub stands_begun : {n n' : Nesting} {fs : List Frame} (f : Frame) (m : ℕ) (splits : Bool) → StandsIn n fs → Begun n splits n' → f.closure ≡ numbered splits m → StandsIn n' (f ∷ fs)
unfolding closures
stands_begun {fs = fs} f m true s b h = rw h (record { depth = omega (arith, b.depth, s.depth); closure = b.closure ∙ sym (lt-ltb 0 (1 + closures fs) (omega arith)) })
stands_begun {fs = fs} f m false s b h = rw h (record { depth = omega (arith, b.depth, s.depth); closure = b.closure ∙ s.closure ∙ ap (ltb 0) (sym (zero-add (closures fs))) })

pub stands_ended : {n n' : Nesting} {f : Frame} {fs : List Frame} {d : ℕ} → StandsIn n (f ∷ fs) → length fs ≡ d → Ended n d f.closure n' → StandsIn n' fs
unfolding closures
stands_ended {n} {n'} {f} {fs} {d} s h e =
    let deep : n'.depth ≡ closures fs + suc (length fs) = omega (arith, s.depth, e.depth) in
    record { depth = deep; closure = e.closure ∙ closure_flag d (closures fs) n'.depth (deep ∙ ap (λ (j : ℕ). closures fs + suc j) h) }
