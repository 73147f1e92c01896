-- The generated terms: codegen.rs 517, `generate_internal_term_constructors`. Assumes nothing: these are definitions.
use Rattle.std.specs.Prelude.{ℕ, suc, Bool, true, false, cond, ◌&&◌, List, [], ◌∷◌, ◌++◌, replicate, ◌==◌, nat_lt}
use Rattle.std.specs.Prelude.{refl}
use Rattle.std.proofs.Math.Option.{Option, some, none}
use Rattle.plan.specs.Plan.{Options, Environment, Term, Generated, Plan}
use Rattle.plan.specs.Binding.{BindingRow}
use Rattle.plan.specs.Row.{Row, level}
use Rattle.plan.specs.Lookup.{term_at, argument_index}
use Rattle.plan.specs.Refusal.{is_return}
use Rattle.codegen.specs.Piece.{Piece, fix, sym, type, quoted_sym, quoted_pos, num, brace, unbrace}
use Rattle.codegen.specs.Writer.{Marks, insert}
use Rattle.codegen.specs.ReturnKind.{by_return_kind}
use Rattle.codegen.specs.Sema.{is_ref, constructor_sig}
use Rattle.codegen.specs.Block.{Body, words, line, Part, State, walk, text_of, odds_of}

-- lines that have no row
unfoldable pub rowless : ℕ → List (List Piece) → List Part
rowless d [] = []
rowless d (l ∷ ls) = record { row = none; base = d; around = 0; what = line (words l) } ∷ rowless d ls

-- ARGUMENTS

-- the binding of argument i, from binding b on, is marked (`find_binding`, codegen.rs 559)
abbrev pub is_index : ℕ → Option ℕ → Bool
is_index i none = false
is_index i (some j) = i == j

unfoldable pub mark_argument : ℕ → ℕ → List BindingRow → Marks → Marks
mark_argument i b [] r = r
mark_argument i b (x ∷ bs) r = let more = mark_argument i (suc b) bs r in cond (is_index i (argument_index x.binding)) (insert r b) more

-- the arguments that are references, from argument i on
unfoldable pub argument_refs : Environment → List BindingRow → ℕ → List ℕ → Marks → Marks
argument_refs e bs i [] r = r
argument_refs e bs i (t ∷ ts) r = let marked = mark_argument i 0 bs r in argument_refs e bs (suc i) ts (cond (is_ref e t) marked r)

unfoldable pub argument_lines : Environment → ℕ → List ℕ → List (List Piece)
argument_lines e i [] = []
argument_lines e i (t ∷ ts) = (fix "arg" refl ∷ num i ∷ fix ": " refl ∷ cond (is_ref e t) (fix "&" refl ∷ []) [] ++ (type t ∷ fix "," refl ∷ [])) ∷ argument_lines e (suc i) ts

-- SIGNATURE AND END

unfoldable pub signature : Environment → Term → List Part
signature e m =
    let g = constructor_sig m in
    rowless 0 ([] ∷ (fix "// Generated as internal constructor for term " refl ∷ sym m.name ∷ fix "." refl ∷ []) ∷ (fix "pub fn " refl ∷ g.func_name ++ (fix "<C: Context>(" refl ∷ [])) ∷ [])
    ++ (rowless 1 ((fix "ctx: &mut C," refl ∷ []) ∷ argument_lines e 0 g.param_tys
    ++ by_return_kind g.ret_kind ((fix "returns: &mut (impl Extend<" refl ∷ type m.ret_ty ∷ fix "> + Length)," refl ∷ []) ∷ []) [] [])
    ++ rowless 0 ((fix ") -> " refl ∷ by_return_kind g.ret_kind (fix "()" refl ∷ []) (fix "Option<" refl ∷ type m.ret_ty ∷ fix ">" refl ∷ []) (type m.ret_ty ∷ []) ++ (brace ∷ [])) ∷ []))

-- the last step of the root is a return; b: that of the rows before
unfoldable pub ends_in_return : Bool → List Row → Bool
ends_in_return b [] = b
ends_in_return b (r ∷ rs) = ends_in_return (cond (level r == 0) (is_return r) b) rs

-- codegen.rs 585, `last_expr`: "A last line stands only if the root's last step isn't a return"
unfoldable pub last_expr : Term → List (List Piece)
last_expr m =
    by_return_kind (constructor_sig m).ret_kind [] ((fix "None" refl ∷ []) ∷ [])
    ((fix "unreachable!(\"no rule matched for term {} at {}; should it be partial?\", " refl ∷ quoted_sym m.name ∷ fix ", " refl ∷ quoted_pos m.pos ∷ fix ")" refl ∷ []) ∷ [])

unfoldable pub term_end : Term → List Row → List Part
term_end m rs = rowless 1 (cond (ends_in_return false rs) [] (last_expr m)) ++ rowless 0 ((unbrace ∷ []) ∷ [])

-- TERMS

unfoldable pub body_of : Options → Environment → Generated → Body
body_of o e g =
    let m = term_at e g.term in
    record { env = e; bindings = g.bindings; log = o.log; ret_kind = (constructor_sig m).ret_kind; term_name = m.name }

-- "1,024 bindings": no more can be marked
abbrev pub no_marks : Marks
no_marks = replicate 1024 false

-- marks and closure numbers begin anew with each generated term
unfoldable pub start : Environment → Generated → State
start e g = record { refs = argument_refs e g.bindings 0 (term_at e g.term).arg_tys no_marks; bound = no_marks; match_split = 0; frames = [] }

-- "An arm splits when split is 1, the term is of Iterator kind, its match has two or more arms and the arm's body weighs more
-- than the threshold": the weights that split; `walk` sees to the arms
unfoldable pub splits : Options → Environment → Generated → ℕ → Bool
splits o e g w = o.split && (by_return_kind (constructor_sig (term_at e g.term)).ret_kind true false false && nat_lt o.threshold w)

unfoldable pub term_parts : Options → Environment → Generated → List Part
term_parts o e g =
    let m = term_at e g.term in
    signature e m ++ (walk (body_of o e g) (splits o e g) (start e g) 0 g.rows ++ term_end m g.rows)

unfoldable pub all_parts : Options → Environment → List Generated → List Part
all_parts o e [] = []
all_parts o e (g ∷ gs) = term_parts o e g ++ all_parts o e gs

abbrev pub parts : Plan → List Part
parts p = all_parts p.options p.env p.generated

-- the text of `generate_internal_term_constructors`, and how many of its literals are odd
unfoldable pub terms_text : Plan → List ℕ
terms_text p = text_of p.env (parts p)

unfoldable pub odds : Plan → ℕ
odds p = odds_of (parts p)
