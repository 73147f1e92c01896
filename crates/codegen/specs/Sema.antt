-- Types and signatures as codegen.rs asks for them: sema.rs. Assumes nothing: these are definitions.
use Rattle.std.specs.Prelude.{ℕ, Bool, true, false, cond, ◌&&◌, List, [], ◌∷◌, slice_index, slice_index_or}
use Rattle.std.specs.Prelude.{refl}
use Rattle.std.proofs.Math.Option.{Option, none}
use Rattle.literal.specs.declared.builtin_type.IntType.{IntType}
use Rattle.literal.specs.BuiltinType.{builtin_int}
use Rattle.plan.specs.Plan.{Fields, unit, named, tuple, TypeData, Builtin, Primitive, Enum, Struct, FunctionKind, absent, internal, external, Term, Environment}
use Rattle.plan.specs.Lookup.{type_at}
use Rattle.codegen.specs.Piece.{Piece, fix, sym, num}
use Rattle.codegen.specs.ReturnKind.{ReturnKind}
use Rattle.codegen.specs.ReturnKind as kind

-- codegen.rs 610, `ty`: is a value of the type passed by reference
unfoldable pub is_ref_type : TypeData → Bool
is_ref_type (Builtin t) = false
is_ref_type (Primitive n) = false
is_ref_type (Enum d) = true
is_ref_type (Struct d f) = true

abbrev pub is_ref : Environment → ℕ → Bool
is_ref e n = is_ref_type (type_at e n)

-- codegen.rs 1183, `emit_int`: the integer type that a literal is written as, none for another type
unfoldable pub int_type : TypeData → Option IntType
int_type (Builtin t) = builtin_int t
int_type (Primitive n) = none
int_type (Enum d) = none
int_type (Struct d f) = none

-- a field's name: its number in a tuple
unfoldable pub field_name : Fields → ℕ → Piece
field_name unit i = num i
field_name (named fs) i = sym (slice_index_or fs i (record { name = 0; ty = 0 })).name
field_name (tuple ts) i = num i

unfoldable pub field_type : Fields → ℕ → ℕ
field_type unit i = 0
field_type (named fs) i = (slice_index_or fs i (record { name = 0; ty = 0 })).ty
field_type (tuple ts) i = slice_index ts i

-- sema.rs 564: `ExternalSig`
pub record ExternalSig : Type 0 where
  pub func_name : List Piece
  pub full_name : List Piece
  pub param_tys : List ℕ
  pub ret_tys : List ℕ
  pub ret_kind : ReturnKind

-- an internal function's name has a prefix before the term's name; an external one has its own name, called as `C::name`
unfoldable pub func_name_of : FunctionKind → Piece → Term → List Piece
func_name_of absent prefix m = []
func_name_of internal prefix m = prefix ∷ sym m.name ∷ []
func_name_of (external n) prefix m = sym n ∷ []

unfoldable pub full_name_of : FunctionKind → Piece → Term → List Piece
full_name_of absent prefix m = []
full_name_of internal prefix m = prefix ∷ sym m.name ∷ []
full_name_of (external n) prefix m = fix "C::" refl ∷ sym n ∷ []

unfoldable pub is_external : FunctionKind → Bool
is_external absent = false
is_external internal = false
is_external (external n) = true

-- sema.rs 689: `Term::extractor_sig`; an internal extractor is not infallible
unfoldable pub extractor_sig : Term → ExternalSig
extractor_sig m = record {
  func_name = func_name_of m.xtor (fix "extractor_" refl) m;
  full_name = full_name_of m.xtor (fix "extractor_" refl) m;
  param_tys = m.ret_ty ∷ [];
  ret_tys = m.arg_tys;
  ret_kind = cond m.multi kind.Iterator (cond (m.infallible && is_external m.xtor) kind.Plain kind.Option);
}

-- sema.rs 729: `Term::constructor_sig`
unfoldable pub constructor_sig : Term → ExternalSig
constructor_sig m = record {
  func_name = func_name_of m.ctor (fix "constructor_" refl) m;
  full_name = full_name_of m.ctor (fix "constructor_" refl) m;
  param_tys = m.arg_tys;
  ret_tys = m.ret_ty ∷ [];
  ret_kind = cond m.multi kind.Iterator (cond m.partial kind.Option kind.Plain);
}
