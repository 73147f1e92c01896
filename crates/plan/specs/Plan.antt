-- A plan as data: document 01, "The plan". Names, positions, types, terms and bindings are row numbers.
-- Assumes nothing: these are definitions.
use Rattle.std.specs.Prelude.{ℕ, Bool, List}
use Rattle.literal.specs.declared.builtin_type.BuiltinType.{BuiltinType}
use Rattle.plan.specs.Binding.{BindingRow}
use Rattle.plan.specs.Row.{Row}

-- `CodegenOptions` of codegen.rs
pub record Options : Type 0 where
  pub nopragmas : Bool
  pub log : Bool
  pub split : Bool
  pub threshold : ℕ

-- a named field: `sym:type`
pub record Field : Type 0 where
  pub name : ℕ
  pub ty : ℕ

-- `Fields` of sema.rs, under the names of document 01's shapes; a tuple field is a type
pub data Fields : Type 0 where
  unit : Fields
  named : List Field → Fields
  tuple : List ℕ → Fields

-- what an enum and a struct have in common
pub record Declared : Type 0 where
  pub name : ℕ
  pub is_extern : Bool
  pub is_nodebug : Bool
  pub pos : ℕ

-- `Type` of sema.rs (`Type` is a reserved word here). An enum's variants stand in a table of their own.
pub data TypeData : Type 0 where
  Builtin : BuiltinType → TypeData
  Primitive : ℕ → TypeData
  Enum : Declared → TypeData
  Struct : Declared → Fields → TypeData

pub record Variant : Type 0 where
  pub ty : ℕ
  pub name : ℕ
  pub fields : Fields

-- a term's constructor or extractor: `-`, `in`, or the name of an external one
-- (`ConstructorKind` and `ExtractorKind` of sema.rs)
pub data FunctionKind : Type 0 where
  absent : FunctionKind
  internal : FunctionKind
  external : ℕ → FunctionKind

pub record Term : Type 0 where
  pub name : ℕ
  pub pos : ℕ
  pub ret_ty : ℕ
  pub multi : Bool
  pub partial : Bool
  pub ctor : FunctionKind
  pub xtor : FunctionKind
  pub infallible : Bool
  pub arg_tys : List ℕ

-- a term to generate, with its bindings and its scheduled block
pub record Generated : Type 0 where
  pub term : ℕ
  pub bindings : List BindingRow
  pub rows : List Row

-- what is the same for every generated term: files, `TypeEnv` and `TermEnv`. The types begin with the builtins.
pub record Environment : Type 0 where
  pub files : List (List ℕ)
  pub syms : List (List ℕ)
  pub poss : List (List ℕ)
  pub types : List TypeData
  pub variants : List Variant
  pub terms : List Term

pub record Plan : Type 0 where
  pub options : Options
  pub env : Environment
  pub generated : List Generated
