-- Names of accounts.
use Rattle.std.specs.Prelude.{ℕ, ◌-◌, Bool, cond, not, ◌&&◌, ◌||◌, List, ◌++◌, length, replicate, Some, None, Option, ◌==◌, nat_le, slice_index}
use Rattle.std.specs.List.{list_all}
use Rattle.terms.specs.declared.names.Name.{Name}
use Rattle.terms.specs.Codes.{capital}

-- a capital, a digit, a hyphen or a blank
abbrev pub name_byte : ℕ → Bool
name_byte b = capital b || ((nat_le 48 b && nat_le b 57) || (b == 45 || b == 32))

-- 1 to 20 such characters, with no blank at either end
abbrev pub name_form : List ℕ → Bool
name_form t = nat_le 1 (length t) && (nat_le (length t) 20 && (not (slice_index t 0 == 32) && (not (slice_index t (length t - 1) == 32) && list_all name_byte t)))

-- a text with blanks behind it, twenty columns in all
abbrev pub filled_out : List ℕ → List ℕ
filled_out t = t ++ replicate (20 - length t) 32

-- the name that a text spells, or none where it has not a name's form
abbrev pub named : List ℕ → Option Name
named t = cond (name_form t) (Some (record { text = filled_out t })) None

-- a name's bytes, by which names are ordered
abbrev pub spelled : Name → List ℕ
spelled n = n.text
