-- What stands before the terms has no literals and no quoted texts.
use Rattle.std.specs.Prelude.{ℕ, suc, ◌≡◌, refl, Bool, true, false, cond, not, ◌&&◌, List, [], ◌∷◌, ◌++◌, eqb}
use Rattle.text.specs.Codes.{codes}
use Rattle.plan.specs.Plan.{Options, Field, Fields, unit, named, tuple, Declared, TypeData, Builtin, Primitive, Enum, Struct, Variant, Term, Environment, Plan}
use Rattle.plan.specs.Lookup.{variants_of}
use Rattle.plan.specs.Layout.{digit}
use Rattle.codegen.specs.Piece.{Piece, fix, file, sym, pos, type, quoted_sym, quoted_pos, num, var, new, lit, brace, unbrace, break}
use Rattle.codegen.specs.ReturnKind.{by_return_kind}
use Rattle.codegen.specs.Sema.{is_ref, ExternalSig, extractor_sig, constructor_sig, is_external}
use Rattle.codegen.specs.Items.{join, file_lines, pragmas, generate_header, type_name, type_names, ret_tuple, sig_params, generate_trait_sig, term_sigs, generate_ctx_trait, public, named_fields, tuple_fields, generate_fields, is_unit, all_unit, type_head, variant_lines, enum_type, struct_end, struct_type, internal_type, generate_internal_types, items}
use Rattle.splitting.specs.Cases.{and_left, and_right, and_both}
use Rattle.origin.specs.Origin.{bare, quiet, unmarked, silent, silents}
use Rattle.origin.proofs.PieceOrigins.{either, by_kind, quiets, Named, extractor_named, constructor_named}

abbrev pieces_silent : List (List Piece) → Bool
pieces_silent [] = true
pieces_silent (l ∷ ls) = silents l && pieces_silent ls

abbrev All : List Piece → Type 0
All ps = silents ps ≡ true

append : (ps qs : List Piece) → All ps → All qs → All (ps ++ qs)
append [] qs h g = g
append (p ∷ ps) qs h g = and_both (and_left (silent p) (silents ps) h) (append ps qs (and_right (silent p) (silents ps) h) g)

-- a quiet piece is silent
pub bare_unmarked : (s : List ℕ) → bare s ≡ true → unmarked s ≡ true
bare_unmarked [] h = refl
bare_unmarked (c ∷ s) h = and_both (and_left (not (eqb c 34)) _ h) (bare_unmarked s (and_right (not (digit c)) _ (and_right (not (eqb c 34)) _ h)))

pub quiet_silent : (p : Piece) → quiet p ≡ true → silent p ≡ true
quiet_silent (fix t k) h = bare_unmarked (codes t) h
quiet_silent (file n) h = refl
quiet_silent (sym n) h = refl
quiet_silent (pos n) h = refl
quiet_silent (type n) h = refl
quiet_silent (quoted_sym n) h = h
quiet_silent (quoted_pos n) h = h
quiet_silent (num n) h = refl
quiet_silent (var n) h = refl
quiet_silent (new n) h = refl
quiet_silent (lit t v) h = h
quiet_silent brace h = refl
quiet_silent unbrace h = refl
quiet_silent (break k) h = refl

quiets_silent : (ps : List Piece) → quiets ps ≡ true → All ps
quiets_silent [] h = refl
quiets_silent (p ∷ ps) h = and_both (quiet_silent p (and_left (quiet p) _ h)) (quiets_silent ps (and_right (quiet p) _ h))

join_fine : (ls : List (List Piece)) → pieces_silent ls ≡ true → All (join ls)
unfolding join
join_fine [] h = refl
join_fine (l ∷ []) h = and_left (silents l) _ h
join_fine (l ∷ m ∷ ls) h = append l _ (and_left (silents l) _ h) (join_fine (m ∷ ls) (and_right (silents l) _ h))

-- HEADER

file_lines_fine : (i : ℕ) (fs : List (List ℕ)) → All (file_lines i fs)
unfolding file_lines
file_lines_fine i [] = refl
file_lines_fine i (f ∷ fs) = file_lines_fine (suc i) fs

header_fine : (o : Options) (e : Environment) → All (generate_header o e)
unfolding generate_header
header_fine o e = append (file_lines 0 e.files) _ (file_lines_fine 0 e.files) (append (cond o.nopragmas [] pragmas) _ (either All o.nopragmas refl refl) refl)

-- CONTEXT TRAIT

type_name_fine : (e : Environment) (r : Bool) (n : ℕ) → All (type_name e r n)
unfolding type_name
type_name_fine e r n = either All (r && is_ref e n) refl refl

type_names_fine : (e : Environment) (ns : List ℕ) → pieces_silent (type_names e ns) ≡ true
unfolding type_names
type_names_fine e [] = refl
type_names_fine e (n ∷ ns) = and_both (type_name_fine e false n) (type_names_fine e ns)

ret_tuple_fine : (e : Environment) (ns : List ℕ) → All (ret_tuple e ns)
unfolding ret_tuple
ret_tuple_fine e [] = refl
ret_tuple_fine e (n ∷ []) = type_name_fine e false n
ret_tuple_fine e (n ∷ m ∷ ns) = append (join (type_names e (n ∷ m ∷ ns))) _ (join_fine _ (type_names_fine e (n ∷ m ∷ ns))) refl

sig_params_fine : (e : Environment) (g : ExternalSig) → Named g → (i : ℕ) (ns : List ℕ) → pieces_silent (sig_params e g i ns) ≡ true
unfolding sig_params
sig_params_fine e g h i [] = by_kind (λ ls. pieces_silent ls ≡ true) g.ret_kind (and_both (append g.func_name _ (quiets_silent g.func_name h.func) refl) refl) refl refl
sig_params_fine e g h i (n ∷ ns) = and_both (type_name_fine e true n) (sig_params_fine e g h (suc i) ns)

trait_sig_fine : (e : Environment) (g : ExternalSig) → Named g → All (generate_trait_sig e g)
unfolding generate_trait_sig
trait_sig_fine e g h =
    let ret : List Piece = ret_tuple e g.ret_tys in
    let r : All ret = ret_tuple_fine e g.ret_tys in
    append (by_return_kind g.ret_kind _ _ _) _
    (by_kind All g.ret_kind (append g.func_name _ (quiets_silent g.func_name h.func) (append ret _ r refl)) refl refl)
    (append g.func_name _ (quiets_silent g.func_name h.func) (append (join (sig_params e g 0 g.param_tys)) _ (join_fine _ (sig_params_fine e g h 0 g.param_tys))
    (append (by_return_kind g.ret_kind _ _ ret) _ (by_kind All g.ret_kind refl (append ret _ r refl) r) refl)))

term_sigs_fine : (e : Environment) (ms : List Term) → All (term_sigs e ms)
unfolding term_sigs
term_sigs_fine e [] = refl
term_sigs_fine e (m ∷ ms) =
    append (cond (is_external m.xtor) _ []) _ (either All (is_external m.xtor) (trait_sig_fine e (extractor_sig m) (extractor_named m)) refl)
    (append (cond (is_external m.ctor) _ []) _ (either All (is_external m.ctor) (trait_sig_fine e (constructor_sig m) (constructor_named m)) refl) (term_sigs_fine e ms))

trait_fine : (e : Environment) → All (generate_ctx_trait e)
unfolding generate_ctx_trait
trait_fine e = append (term_sigs e e.terms) _ (term_sigs_fine e e.terms) refl

-- INTERNAL TYPES

public_fine : (a : Bool) → All (public a)
public_fine true = refl
public_fine false = refl

named_fields_fine : (a : Bool) (d : ℕ) (fs : List Field) → All (named_fields a d fs)
unfolding named_fields
named_fields_fine a d [] = refl
named_fields_fine a d (f ∷ fs) = append (public a) _ (public_fine a) (named_fields_fine a d fs)

tuple_fields_fine : (a : Bool) (ns : List ℕ) → pieces_silent (tuple_fields a ns) ≡ true
unfolding tuple_fields
tuple_fields_fine a [] = refl
tuple_fields_fine a (n ∷ ns) = and_both (append (public a) _ (public_fine a) refl) (tuple_fields_fine a ns)

fields_fine : (a : Bool) (d : ℕ) (f : Fields) → All (generate_fields a d f)
unfolding generate_fields
fields_fine a d unit = refl
fields_fine a d (named fs) = append (named_fields a (suc d) fs) _ (named_fields_fine a (suc d) fs) refl
fields_fine a d (tuple ns) = append (join (tuple_fields a ns)) _ (join_fine _ (tuple_fields_fine a ns)) refl

head_fine : (d : Declared) (copy : Bool) → All (type_head d copy)
unfolding type_head
head_fine d copy = and_both (either (λ x. silent x ≡ true) copy refl refl) (append (cond d.is_nodebug [] _) _ (either All d.is_nodebug refl refl) refl)

variant_lines_fine : (vs : List Variant) → All (variant_lines vs)
unfolding variant_lines
variant_lines_fine [] = refl
variant_lines_fine (v ∷ vs) = append (generate_fields false 1 v.fields) _ (fields_fine false 1 v.fields) (variant_lines_fine vs)

struct_end_fine : (f : Fields) → All (struct_end f)
struct_end_fine unit = refl
struct_end_fine (named fs) = refl
struct_end_fine (tuple ns) = refl

internal_type_fine : (e : Environment) (n : ℕ) (t : TypeData) → All (internal_type e n t)
unfolding internal_type enum_type struct_type
internal_type_fine e n (Builtin t) = refl
internal_type_fine e n (Primitive s) = refl
internal_type_fine e n (Enum d) =
    let vs : List Variant = variants_of n e.variants in
    either All d.is_extern refl (append (type_head d (all_unit vs)) _ (head_fine d (all_unit vs)) (append (variant_lines vs) _ (variant_lines_fine vs) refl))
internal_type_fine e n (Struct d f) =
    either All d.is_extern refl (append (type_head d (is_unit f)) _ (head_fine d (is_unit f)) (append (generate_fields true 0 f) _ (fields_fine true 0 f) (struct_end_fine f)))

types_fine : (e : Environment) (n : ℕ) (ts : List TypeData) → All (generate_internal_types e n ts)
unfolding generate_internal_types
types_fine e n [] = refl
types_fine e n (t ∷ ts) = append (internal_type e n t) _ (internal_type_fine e n t) (types_fine e (suc n) ts)

pub items_fine : (p : Plan) → All (items p)
unfolding items
items_fine p = append (generate_header p.options p.env) _ (header_fine p.options p.env) (append (generate_ctx_trait p.env) _ (trait_fine p.env) (types_fine p.env 0 p.env.types))
