use Rattle.std.proofs.Common.{arith, rules, ◌%◌, [], ◌∷◌, ◌≡◌, ◌≤◌, ◌<◌, ◌+◌, ◌/◌, true, append_assoc, decimal, vec_len}
use Rattle.std.proofs.Common.{vec_capacity}
use Rattle.std.specs.Result.{is_ok}
use Rattle.hsp_text.proofs.Numerals.{last_digit_wide}
use Rattle.hsp_text.proofs.wide.+push_wide_number.Goals as goal

pub push_wide_number-requires : goal.push_wide_number-requires
push_wide_number-requires t c =
    let low : 10 ≤ c.args.number = omega (arith, c.from.ensures, c.if-number-from.false) in
    let s = last_digit_wide c.args.number low c.ranges.number.fits in
    (omega arith, omega arith)

pub unwrap-requires : goal.unwrap-requires
unwrap-requires t c =
    let low : 10 ≤ c.args.number = omega (arith, c.from.ensures, c.if-number-from.false) in
    let s = last_digit_wide c.args.number low c.ranges.number.fits in
    let room : vec_len c.push_wide_number.new.out < vec_capacity c.push_wide_number.new.out = omega arith in
    c.push.ensures.succeeds room

pub returns-clause-digits : goal.returns-clause-digits
returns-clause-digits t c =
    let low : 10 ≤ c.args.number = omega (arith, c.from.ensures, c.if-number-from.false) in
    let s = last_digit_wide c.args.number low c.ranges.number.fits in
    let pushed : is_ok c.push.result ≡ true = search rules in
    let items = rw pushed at c.push.ensures.items in
    rw (items, c.push_wide_number.ensures.digits, s.0)
    (append_assoc c.args.out.now.items (decimal (c.args.number / 10)) ((48 + c.args.number % 10) ∷ []))

pub returns-clause-len : goal.returns-clause-len
returns-clause-len t c =
    let low : 10 ≤ c.args.number = omega (arith, c.from.ensures, c.if-number-from.false) in
    let s = last_digit_wide c.args.number low c.ranges.number.fits in
    let pushed : is_ok c.push.result ≡ true = search rules in
    let len = rw pushed at c.push.ensures.len in
    omega arith
