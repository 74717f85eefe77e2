-- A profile's flags as a byte, and back: document 01's flag bits from 0 up.
use Rattle.std.specs.Prelude.{Bool, true, false, ℕ, ◌+◌, ◌/◌, ◌%◌, ◌^◌, eqb}
use Rattle.profiles.specs.declared.Profile.{Profile}

-- bit k of x
abbrev pub bit_at : ℕ → ℕ → Bool
bit_at x k = eqb (x / 2 ^ k % 2) 1

abbrev pub profile_of : ℕ → ℕ → Profile
profile_of f m = record {
  has_zicntr = bit_at f 0;
  has_zihpm_extension = bit_at f 1;
  has_tee_extension = bit_at f 2;
  has_s_extension = bit_at f 3;
  has_h_extension = bit_at f 4;
  is_sstc_enabled = bit_at f 5;
  has_v_extension = bit_at f 6;
  has_crypto_extension = bit_at f 7;
  custom = m;
}

abbrev pub empty_profile : Profile
empty_profile = profile_of 0 0

abbrev pub full_profile : Profile
full_profile = profile_of 0xFF 0xFFFFFFFFFFFFFFFF

-- n where the flag is on, else 0
abbrev pub weight_def : Bool → ℕ → ℕ
weight_def true n = n
weight_def false n = 0

abbrev pub flags_of : Profile → ℕ
flags_of p =
    weight_def p.has_zicntr (2 ^ 0)
    + weight_def p.has_zihpm_extension (2 ^ 1)
    + weight_def p.has_tee_extension (2 ^ 2)
    + weight_def p.has_s_extension (2 ^ 3)
    + weight_def p.has_h_extension (2 ^ 4)
    + weight_def p.is_sstc_enabled (2 ^ 5)
    + weight_def p.has_v_extension (2 ^ 6)
    + weight_def p.has_crypto_extension (2 ^ 7)
