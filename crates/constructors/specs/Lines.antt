-- The lines around a term's block as bytes. Assumes nothing.
use Rattle.std.specs.Prelude.{ℕ, suc, ◌+◌, ◌≤◌, ◌<◌, ◌≡◌, refl, Bool, true, false, cond, List, [], ◌∷◌, ◌++◌, length, drop, get_or}
use Rattle.std.proofs.Common.{sym, ap, ◌∙◌, append_assoc, append-nil, zero-add, add_assoc, add-one, drop_of_length-le, drop-cons}
use Rattle.text.specs.Codes.{codes}
use Rattle.text.specs.Digits.{decimal}
use Rattle.text.specs.Sink.{spaces}
use Rattle.text.specs.Writes.{Writes, writes_nil, writes_then}
use Rattle.text.specs.declared.sink.Sink.{Sink}
use Rattle.plan.specs.Plan.{Environment, Term, FunctionKind, absent, internal, external}
use Rattle.plan.specs.Lookup.{type_at}
use Rattle.codegen.specs.Piece as piece
use Rattle.codegen.specs.Piece.{Piece, fix, type, num, brace, indent, sym_text, type_text, bytes, render, odd_piece, odd_pieces}
use Rattle.codegen.specs.ReturnKind.{ReturnKind, Iterator, Option, Plain, by_return_kind}
use Rattle.codegen.specs.Sema.{is_ref, func_name_of, constructor_sig}
use Rattle.codegen.specs.Block.{line_bytes, what_bytes, part_bytes, text_of, odds_of}
use Rattle.codegen.specs.Terms.{rowless, argument_lines, signature}
use Rattle.splitting.specs.Lines.{text_append}
use Rattle.splitting.specs.Simulation.{odds_append}
use Rattle.emits.specs.Emits.{render_append, odd_append}
use Rattle.sema.specs.Types.{param_text}

-- lines that have no row, d deep
unfoldable pub lines_text : Environment → ℕ → List (List Piece) → List ℕ
lines_text env d ls = text_of env (rowless d ls)

rowless_append : (d : ℕ) (ls ms : List (List Piece)) → rowless d (ls ++ ms) ≡ rowless d ls ++ rowless d ms
unfolding rowless
rowless_append d [] ms = refl
rowless_append d (l ∷ ls) ms = rw (rowless_append d ls ms)

lines_append : (env : Environment) (d : ℕ) (ls ms : List (List Piece)) → lines_text env d (ls ++ ms) ≡ lines_text env d ls ++ lines_text env d ms
unfolding lines_text
lines_append env d ls ms = rw (rowless_append, text_append)

pub lines_nil : (env : Environment) (d : ℕ) → lines_text env d [] ≡ []
unfolding lines_text rowless text_of
lines_nil env d = refl

pub lines_cons : (env : Environment) (d : ℕ) (l : List Piece) (ls : List (List Piece)) → lines_text env d (l ∷ ls) ≡ (indent d ++ (render env d l ++ (10 ∷ []))) ++ lines_text env d ls
unfolding lines_text rowless text_of part_bytes what_bytes line_bytes
lines_cons env d l ls = rw zero-add

pub render_nil : (env : Environment) (d : ℕ) → render env d [] ≡ []
unfolding render
render_nil env d = refl

pub render_cons : (env : Environment) (d : ℕ) (p : Piece) (ps : List Piece) → render env d (p ∷ ps) ≡ bytes env d p ++ render env d ps
unfolding render
render_cons env d p ps = refl

-- THE SIGNATURE

-- up to the arguments
unfoldable pub head_text : Environment → ℕ → List Piece → List ℕ
head_text env name func =
    (10 ∷ codes "// Generated as internal constructor for term ") ++ (sym_text env name ++ ((46 ∷ 10 ∷ codes "pub fn ") ++ (render env 0 func ++ (codes "<C: Context>(" ++ (10 ∷ codes "    ctx: &mut C," ++ (10 ∷ []))))))

-- after the arguments
unfoldable pub result_text : Environment → ReturnKind → ℕ → List ℕ
result_text env k ty =
    let t = type_text env (type_at env ty) in
    by_return_kind k
    (codes "    returns: &mut (impl Extend<" ++ (t ++ (codes "> + Length)," ++ (10 ∷ codes ") -> () {" ++ (10 ∷ [])))))
    (codes ") -> Option<" ++ (t ++ (codes "> {" ++ (10 ∷ []))))
    (codes ") -> " ++ (t ++ (codes " {" ++ (10 ∷ []))))

abbrev pub arguments_text : Environment → ℕ → List ℕ → List ℕ
arguments_text env i ts = lines_text env 1 (argument_lines env i ts)

func_is : (env : Environment) (func : List Piece) → render env 0 (fix "pub fn " refl ∷ func ++ (fix "<C: Context>(" refl ∷ [])) ≡ codes "pub fn " ++ (render env 0 func ++ codes "<C: Context>(")
unfolding render bytes
func_is env func = ap (λ (s : List ℕ). codes "pub fn " ++ s) (render_append env 0 func (fix "<C: Context>(" refl ∷ []))

head_is : (env : Environment) (name : ℕ) (func : List Piece) → lines_text env 0 ([] ∷ (fix "// Generated as internal constructor for term " refl ∷ piece.sym name ∷ fix "." refl ∷ []) ∷ (fix "pub fn " refl ∷ func ++ (fix "<C: Context>(" refl ∷ [])) ∷ []) ++ lines_text env 1 ((fix "ctx: &mut C," refl ∷ []) ∷ []) ≡ head_text env name func
unfolding head_text bytes indent spaces
head_is env name func = simp (lines_cons, lines_nil, func_is, render_cons, render_nil, append_assoc, append-nil)

result_is : (env : Environment) (k : ReturnKind) (ty : ℕ) → lines_text env 1 (by_return_kind k ((fix "returns: &mut (impl Extend<" refl ∷ type ty ∷ fix "> + Length)," refl ∷ []) ∷ []) [] [])
    ++ lines_text env 0 ((fix ") -> " refl ∷ by_return_kind k (fix "()" refl ∷ []) (fix "Option<" refl ∷ type ty ∷ fix ">" refl ∷ []) (type ty ∷ []) ++ (brace ∷ [])) ∷ []) ≡ result_text env k ty
unfolding result_text by_return_kind bytes indent spaces
result_is env Iterator ty = simp (lines_cons, lines_nil, render_cons, render_nil, append_assoc, append-nil)
result_is env Option ty = simp (lines_cons, lines_nil, render_cons, render_nil, append_assoc, append-nil)
result_is env Plain ty = simp (lines_cons, lines_nil, render_cons, render_nil, append_assoc, append-nil)

regroup : (a b x y z : List ℕ) → a ++ ((b ++ (x ++ y)) ++ z) ≡ (a ++ b) ++ (x ++ (y ++ z))
regroup a b x y z = simp append_assoc

signature_joined : (env : Environment) (before : List (List Piece)) (c : List Piece) (args ret after : List (List Piece))
    → text_of env (rowless 0 before ++ (rowless 1 (c ∷ args ++ ret) ++ rowless 0 after)) ≡ (lines_text env 0 before ++ lines_text env 1 (c ∷ [])) ++ (lines_text env 1 args ++ (lines_text env 1 ret ++ lines_text env 0 after))
unfolding lines_text
signature_joined env before c args ret after =
    text_append env (rowless 0 before) (rowless 1 (c ∷ args ++ ret) ++ rowless 0 after)
    ∙ ap (λ (s : List ℕ). lines_text env 0 before ++ s) (text_append env (rowless 1 (c ∷ args ++ ret)) (rowless 0 after) ∙ ap (λ (s : List ℕ). s ++ lines_text env 0 after) (lines_append env 1 (c ∷ []) (args ++ ret) ∙ ap (λ (s : List ℕ). lines_text env 1 (c ∷ []) ++ s) (lines_append env 1 args ret)))
    ∙ regroup (lines_text env 0 before) (lines_text env 1 (c ∷ [])) (lines_text env 1 args) (lines_text env 1 ret) (lines_text env 0 after)

pub signature_is : (env : Environment) (m : Term) → text_of env (signature env m) ≡ head_text env m.name (constructor_sig m).func_name ++ (arguments_text env 0 (constructor_sig m).param_tys ++ result_text env (constructor_sig m).ret_kind m.ret_ty)
unfolding signature
signature_is env m = signature_joined env _ _ (argument_lines env 0 (constructor_sig m).param_tys) _ _ ∙ rw (head_is, result_is)

-- NO LITERALS

-- odd literals of lines
abbrev pub lines_odds : List (List Piece) → ℕ
lines_odds [] = 0
lines_odds (l ∷ ls) = odd_pieces l + lines_odds ls

pub rowless_odds : (d : ℕ) (ls : List (List Piece)) → odds_of (rowless d ls) ≡ lines_odds ls
unfolding rowless odds_of
rowless_odds d [] = refl
rowless_odds d (l ∷ ls) = rw (rowless_odds d ls)

lines_odds_append : (ls ms : List (List Piece)) → lines_odds (ls ++ ms) ≡ lines_odds ls + lines_odds ms
lines_odds_append [] ms = sym (zero-add _)
lines_odds_append (l ∷ ls) ms = rw (lines_odds_append ls ms) (sym (add_assoc (odd_pieces l) (lines_odds ls) (lines_odds ms)))

func_odds : (f : FunctionKind) (t : Piece) (m : Term) → odd_piece t ≡ 0 → odd_pieces (func_name_of f t m) ≡ 0
unfolding func_name_of odd_pieces odd_piece
func_odds absent t m h = refl
func_odds internal t m h = rw h
func_odds (external n) t m h = refl

argument_odds : (env : Environment) (i : ℕ) (ts : List ℕ) → lines_odds (argument_lines env i ts) ≡ 0
unfolding argument_lines odd_pieces odd_piece
argument_odds env i [] = refl
argument_odds env i (t ∷ ts) = by_bool (is_ref env t) (argument_odds env (suc i) ts)
  where
    by_bool : (b : Bool) → lines_odds (argument_lines env (suc i) ts) ≡ 0 → odd_pieces (fix "arg" refl ∷ num i ∷ fix ": " refl ∷ cond b (fix "&" refl ∷ []) [] ++ (type t ∷ fix "," refl ∷ [])) + lines_odds (argument_lines env (suc i) ts) ≡ 0
    by_bool true h = rw h
    by_bool false h = rw h

odd_after : (p : Piece) (ps : List Piece) → odd_piece p ≡ 0 → odd_pieces (p ∷ ps) ≡ odd_pieces ps
unfolding odd_pieces
odd_after p ps h = rw h (zero-add (odd_pieces ps))

context_odds : (odd_pieces [] ≡ 0) × (odd_pieces (fix "ctx: &mut C," refl ∷ []) ≡ 0)
unfolding odd_pieces odd_piece
context_odds = (refl, refl)

name_odds : (func : List Piece) → odd_pieces func ≡ 0 → odd_pieces (fix "pub fn " refl ∷ func ++ (fix "<C: Context>(" refl ∷ [])) ≡ 0
unfolding odd_piece
name_odds func h = odd_after _ _ refl ∙ odd_append func (fix "<C: Context>(" refl ∷ []) ∙ rw (h, odd_after (fix "<C: Context>(" refl) [] refl) none
  where
    none : 0 + odd_pieces [] ≡ 0
    none = rw context_odds.0

returns_odds : (k : ReturnKind) (ty : ℕ) → lines_odds (by_return_kind k ((fix "returns: &mut (impl Extend<" refl ∷ type ty ∷ fix "> + Length)," refl ∷ []) ∷ []) [] []) ≡ 0
unfolding by_return_kind odd_pieces odd_piece
returns_odds Iterator ty = refl
returns_odds Option ty = refl
returns_odds Plain ty = refl

result_odds : (k : ReturnKind) (ty : ℕ) → odd_pieces (fix ") -> " refl ∷ by_return_kind k (fix "()" refl ∷ []) (fix "Option<" refl ∷ type ty ∷ fix ">" refl ∷ []) (type ty ∷ []) ++ (brace ∷ [])) ≡ 0
unfolding by_return_kind odd_pieces odd_piece
result_odds Iterator ty = refl
result_odds Option ty = refl
result_odds Plain ty = refl

fixed_odds : (name : ℕ) → odd_pieces (fix "// Generated as internal constructor for term " refl ∷ piece.sym name ∷ fix "." refl ∷ []) ≡ 0
unfolding odd_pieces odd_piece
fixed_odds name = refl

constructor_odds : (m : Term) → odd_pieces (constructor_sig m).func_name ≡ 0
unfolding constructor_sig odd_piece
constructor_odds m = func_odds m.ctor _ m refl

pub signature_odds : (env : Environment) (m : Term) → odds_of (signature env m) ≡ 0
unfolding signature
signature_odds env m =
    let func : odd_pieces (constructor_sig m).func_name ≡ 0 = constructor_odds m in
    rw (odds_append, odds_append, rowless_odds 0, rowless_odds 1, rowless_odds 0, lines_odds_append, argument_odds, returns_odds, result_odds, name_odds (constructor_sig m).func_name func, fixed_odds, context_odds.0, context_odds.1)

-- ARGUMENTS, one after the other

unfoldable pub argument_text : Environment → ℕ → ℕ → List ℕ
argument_text env i ty = codes "    arg" ++ (decimal i ++ (codes ": " ++ (param_text env ty ++ (44 ∷ 10 ∷ []))))

argument_by : (env : Environment) (i ty : ℕ) (b : Bool) → (indent 1 ++ (render env 1 (fix "arg" refl ∷ num i ∷ fix ": " refl ∷ cond b (fix "&" refl ∷ []) [] ++ (type ty ∷ fix "," refl ∷ [])) ++ (10 ∷ [])))
    ≡ codes "    arg" ++ (decimal i ++ (codes ": " ++ ((cond b (codes "&") [] ++ type_text env (type_at env ty)) ++ (44 ∷ 10 ∷ []))))
unfolding bytes indent spaces
argument_by env i ty true = simp (render_cons, render_nil, append_assoc)
argument_by env i ty false = simp (render_cons, render_nil, append_assoc)

arguments_next : (env : Environment) (i ty : ℕ) (ts : List ℕ) → arguments_text env i (ty ∷ ts) ≡ argument_text env i ty ++ arguments_text env (suc i) ts
unfolding argument_lines argument_text
arguments_next env i ty ts = lines_cons env 1 _ _ ∙ ap (λ (s : List ℕ). s ++ lines_text env 1 (argument_lines env (suc i) ts)) (argument_by env i ty (is_ref env ty))

-- from the middle: the arguments from argument i on are left to write
pub record ArgumentsLeft (env : Environment) (ts : List ℕ) (w₀ : Sink) (i : ℕ) (w : Sink) : Type 0 where
  pub ends : (w' : Sink) → Writes (arguments_text env i (drop i ts)) w w' → Writes (arguments_text env 0 ts) w₀ w'

module _ {env : Environment} {ts : List ℕ} {w₀ : Sink} where
  pub arguments_start : ArgumentsLeft env ts w₀ 0 w₀
  arguments_start = record { ends = λ w' p. p }

  module _ {i : ℕ} {w : Sink} (l : ArgumentsLeft env ts w₀ i w) where
    pub arguments_more : {w₁ : Sink} (ty : ℕ) → i < length ts → ty ≡ get_or ts i 0 → Writes (argument_text env i ty) w w₁ → ArgumentsLeft env ts w₀ (i + 1) w₁
    arguments_more ty h q p = record { ends = λ w' x. l.ends w' (rw (drop-cons ts i 0 h, ← q, arguments_next) (writes_then p (rw add-one at x))) }

    pub arguments_done : length ts ≤ i → Writes (arguments_text env 0 ts) w₀ w
    unfolding argument_lines
    arguments_done h = l.ends w (rw (drop_of_length-le ts h, lines_nil env 1) writes_nil)
