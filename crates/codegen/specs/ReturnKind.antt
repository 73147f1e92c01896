-- How many values a function can return: `ReturnKind` of sema.rs 553. Assumes nothing: these are definitions.

pub data ReturnKind : Type 0 where
  Iterator : ReturnKind
  Option : ReturnKind
  Plain : ReturnKind

-- what is chosen by a kind
unfoldable pub by_return_kind : {A : Type 0} → ReturnKind → A → A → A → A
by_return_kind Iterator i o p = i
by_return_kind Option i o p = o
by_return_kind Plain i o p = p
