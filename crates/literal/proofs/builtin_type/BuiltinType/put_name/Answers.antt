use Rattle.literal.proofs.builtin_type.BuiltinType.put_name.Goals as goal

pub returns-in-Bool : goal.returns-in-Bool
returns-in-Bool c = rw c.in-Bool.is c.put_bytes.ensures
