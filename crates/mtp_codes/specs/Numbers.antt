-- Ranges of whole numbers.
use Rattle.std.specs.Prelude.{ℕ, nat_le, ℤ, pos, negsuc, int_le, Bool, ◌&&◌}

-- the least signed number of 32 bits
abbrev pub least_i32 : ℤ
least_i32 = negsuc 2147483647

-- the greatest signed number of 32 bits
abbrev pub greatest_i32 : ℤ
greatest_i32 = pos 2147483647

-- the least signed number of 64 bits
abbrev pub least_i64 : ℤ
least_i64 = negsuc 9223372036854775807

-- the greatest signed number of 64 bits
abbrev pub greatest_i64 : ℤ
greatest_i64 = pos 9223372036854775807

-- the greatest unsigned number of 32 bits
abbrev pub greatest_u32 : ℕ
greatest_u32 = 4294967295

-- the greatest unsigned number of 64 bits
abbrev pub greatest_u64 : ℕ
greatest_u64 = 18446744073709551615

-- the number is from low to high
abbrev pub is_within : ℤ → ℤ → ℤ → Bool
is_within low high z = int_le low z && int_le z high

-- a number that is not negative is from low to high
abbrev pub is_between : ℕ → ℕ → ℕ → Bool
is_between low high n = nat_le low n && nat_le n high
