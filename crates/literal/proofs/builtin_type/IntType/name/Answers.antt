use Rattle.literal.proofs.builtin_type.IntType.name.Goals as goal

pub returns-in-U8 : goal.returns-in-U8
returns-in-U8 c = rw c.in-U8.is

pub returns-in-U16 : goal.returns-in-U16
returns-in-U16 c = rw c.in-U16.is

pub returns-in-U32 : goal.returns-in-U32
returns-in-U32 c = rw c.in-U32.is

pub returns-in-U64 : goal.returns-in-U64
returns-in-U64 c = rw c.in-U64.is

pub returns-in-U128 : goal.returns-in-U128
returns-in-U128 c = rw c.in-U128.is

pub returns-in-USize : goal.returns-in-USize
returns-in-USize c = rw c.in-USize.is

pub returns-in-I8 : goal.returns-in-I8
returns-in-I8 c = rw c.in-I8.is

pub returns-in-I16 : goal.returns-in-I16
returns-in-I16 c = rw c.in-I16.is

pub returns-in-I32 : goal.returns-in-I32
returns-in-I32 c = rw c.in-I32.is

pub returns-in-I64 : goal.returns-in-I64
returns-in-I64 c = rw c.in-I64.is

pub returns-in-I128 : goal.returns-in-I128
returns-in-I128 c = rw c.in-I128.is

pub returns-in-ISize : goal.returns-in-ISize
returns-in-ISize c = rw c.in-ISize.is
