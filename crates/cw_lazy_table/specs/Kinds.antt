-- The kinds of what has rows.
pub data SpotKind : Type 0 where
  Asked : SpotKind
  Label : SpotKind
  Open : SpotKind
  Close : SpotKind
  Call : SpotKind
