-- What lists of numbers stand for, so that a signature says what it takes.
use Rattle.std.specs.Prelude.{ℕ, List}

-- the bytes of a file, of a field or of a line
abbrev pub Bytes : Type 0
Bytes = List ℕ

-- a text, as its characters
abbrev pub Text : Type 0
Text = List ℕ

-- a name, as its characters
abbrev pub Name : Type 0
Name = List ℕ

-- a field of a record, as its bytes
abbrev pub Field : Type 0
Field = List ℕ

-- a record of a file: its fields
abbrev pub Record : Type 0
Record = List Field

-- a file: its path, and its bytes
abbrev pub File : Type 0
File = Text × Bytes
