use Rattle.std.proofs.Common.{arith, rules, ◌%◌, [], ◌∷◌, ◌≡◌, ◌<◌, ◌+◌, ◌/◌, true, append_assoc, decimal, vec_len}
use Rattle.std.proofs.Common.{vec_capacity}
use Rattle.std.specs.Result.{is_ok}
use Rattle.hsp_text.proofs.Numerals.{last_digit}
use Rattle.hsp_text.proofs.whole.+push_digits.Goals as goal

pub push_digits-requires : goal.push_digits-requires
push_digits-requires t c =
    let s = last_digit c.args.number c.if-number-lt10.false c.ranges.number.fits in (omega arith, omega arith)

pub unwrap-requires-2 : goal.unwrap-requires-2
unwrap-requires-2 t c =
    let s = last_digit c.args.number c.if-number-lt10.false c.ranges.number.fits in
    let room : vec_len c.push_digits.new.out < vec_capacity c.push_digits.new.out = omega arith in
    c.push-2.ensures.succeeds room

pub returns-clause-digits : goal.returns-clause-digits
returns-clause-digits t c =
    let s = last_digit c.args.number c.if-number-lt10.false c.ranges.number.fits in
    let pushed : is_ok c.push-2.result ≡ true = search rules in
    let items = rw pushed at c.push-2.ensures.items in
    rw (items, c.push_digits.ensures.digits, s.0)
    (append_assoc c.args.out.now.items (decimal (c.args.number / 10)) ((48 + c.args.number % 10) ∷ []))

pub returns-clause-len : goal.returns-clause-len
returns-clause-len t c =
    let s = last_digit c.args.number c.if-number-lt10.false c.ranges.number.fits in
    let pushed : is_ok c.push-2.result ≡ true = search rules in
    let len = rw pushed at c.push-2.ensures.len in
    omega arith
