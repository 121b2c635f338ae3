-- Logic with three values: true, false, and None for null, which may be either.
use Rattle.std.specs.Prelude.{Bool, true, false, Option, Some, None}

abbrev pub not_of : Option Bool → Option Bool
not_of (Some true) = Some false
not_of (Some false) = Some true
not_of None = None

-- false where one side is false, whatever the other is
abbrev pub and_of : Option Bool → Option Bool → Option Bool
and_of (Some false) b = Some false
and_of (Some true) b = b
and_of None (Some false) = Some false
and_of None (Some true) = None
and_of None None = None

-- true where one side is true, whatever the other is
abbrev pub or_of : Option Bool → Option Bool → Option Bool
or_of (Some true) b = Some true
or_of (Some false) b = b
or_of None (Some true) = Some true
or_of None (Some false) = None
or_of None None = None

-- null where one side is null
abbrev pub xor_of : Option Bool → Option Bool → Option Bool
xor_of (Some true) b = not_of b
xor_of (Some false) b = b
xor_of None b = None
