-- How many rows were answered by each kind of answer by prices, as far as sums are kept.
use Rattle.std.specs.Prelude.{◌+◌, Bool, true, false, ℕ, List, count_by}
use Rattle.hsp_price_dispatch.specs.declared.answer.PriceAnswer.{PriceAnswer}
use Rattle.hsp_price_dispatch.specs.declared.answer.PriceAnswer.TheVariants.{Assigned, Diverted, Full, Unknown}
use Rattle.hsp_price_check.specs.Tally.{capped}
use Rattle.hsp_price_answers.specs.declared.sums.PriceSums.{PriceSums}

abbrev pub is_assigned : PriceAnswer → Bool
is_assigned (Assigned arc) = true
is_assigned (Diverted arc) = false
is_assigned Full = false
is_assigned Unknown = false

abbrev pub is_diverted : PriceAnswer → Bool
is_diverted (Assigned arc) = false
is_diverted (Diverted arc) = true
is_diverted Full = false
is_diverted Unknown = false

abbrev pub is_full : PriceAnswer → Bool
is_full (Assigned arc) = false
is_full (Diverted arc) = false
is_full Full = true
is_full Unknown = false

abbrev pub is_unknown : PriceAnswer → Bool
is_unknown (Assigned arc) = false
is_unknown (Diverted arc) = false
is_unknown Full = false
is_unknown Unknown = true

-- how many queries were answered in each way, and how many rows were refused
abbrev pub sums_of : List PriceAnswer → ℕ → PriceSums
sums_of all refused = record {
  assigned = capped (count_by is_assigned all);
  diverted = capped (count_by is_diverted all);
  full = capped (count_by is_full all);
  unknown = capped (count_by is_unknown all);
  refused = refused;
}

abbrev pub no_sums : PriceSums
no_sums = record { assigned = 0; diverted = 0; full = 0; unknown = 0; refused = 0 }

-- the sums with one answer more
abbrev pub with_answer : PriceSums → PriceAnswer → PriceSums
with_answer sums (Assigned arc) = record sums { assigned = capped (sums.assigned + 1) }
with_answer sums (Diverted arc) = record sums { diverted = capped (sums.diverted + 1) }
with_answer sums Full = record sums { full = capped (sums.full + 1) }
with_answer sums Unknown = record sums { unknown = capped (sums.unknown + 1) }

-- the sums with a number of refused rows
abbrev pub with_refused : PriceSums → ℕ → PriceSums
with_refused sums refused = record sums { refused = refused }
