-- Parts of the definition's texts as the functions write them. Assumes nothing: these are definitions.
use Rattle.std.specs.Prelude.{refl, ℕ, zero, suc, true, cond, List, [], ◌∷◌, ◌++◌, slice_index}
use Rattle.plan.specs.Plan.{FunctionKind, Term, Environment}
use Rattle.codegen.specs.Piece.{Piece, fix, num, break}
use Rattle.codegen.specs.ReturnKind.{by_return_kind}
use Rattle.codegen.specs.Sema.{ExternalSig, extractor_sig, constructor_sig, is_external}
use Rattle.codegen.specs.Items.{type_name, ret_tuple, generate_trait_sig}

-- what stands before part i of a list with ", " between
unfoldable pub separator : ℕ → List Piece
separator zero = []
separator (suc i) = fix ", " refl ∷ []

-- the parts from part i on: `join` from the middle
unfoldable pub joined : ℕ → List (List Piece) → List Piece
joined i [] = []
joined i (ps ∷ rest) = separator i ++ (ps ++ joined (suc i) rest)

-- the parameter i, and after n of them the buffer of an iterator
abbrev pub param : Environment → ExternalSig → ℕ → List Piece
param e g i = separator i ++ (fix "arg" refl ∷ num i ∷ fix ": " refl ∷ type_name e true (slice_index g.param_tys i))

abbrev pub last_param : ExternalSig → ℕ → List Piece
last_param g n = joined n (by_return_kind g.ret_kind ((fix "returns: &mut Self::" refl ∷ g.func_name ++ (fix "_returns" refl ∷ [])) ∷ []) [] [])

-- the line for the type of an iterator's buffer
abbrev pub returns_type : Environment → ExternalSig → List Piece
returns_type e g =
    by_return_kind g.ret_kind
    (fix "    type " refl ∷ g.func_name ++ (fix "_returns: Default + IntoContextIter<Context = Self, Output = " refl ∷ ret_tuple e g.ret_tys ++ (fix ">;" refl ∷ break 0 ∷ [])))
    [] []

-- what a function of the trait returns
abbrev pub ret_ty : Environment → ExternalSig → List Piece
ret_ty e g = by_return_kind g.ret_kind (fix "()" refl ∷ []) (fix "Option<" refl ∷ ret_tuple e g.ret_tys ++ (fix ">" refl ∷ [])) (ret_tuple e g.ret_tys)

-- what the context trait has for a function, if it is external
abbrev pub external_sig : Environment → FunctionKind → ExternalSig → List Piece
external_sig e k g = cond (is_external k) (generate_trait_sig e g) []

-- what the context trait has for one term
unfoldable pub term_sig : Environment → Term → List Piece
term_sig e m = external_sig e m.xtor (extractor_sig m) ++ external_sig e m.ctor (constructor_sig m)
