use native.Mathlib.Omega.{arith}
use Prim.Native.Nat.{ℕ, ◌+◌, ◌/◌, ◌%◌, ◌≤◌, ◌<◌}
use mathlib.Core.Path.{◌≡◌, ap, ◌∙◌}
use mathlib.Core.List.{[], ◌∷◌}
use lib.ListN.{length, length-append}
use Rattle.pgm.specs.Decimal.{digit, decimal}
use Rattle.pgm.specs.DecimalLaws.{decimal_one, decimal_more}
use Rattle.pgm.proofs.Writing.{puts_byte, puts_length, puts_then}
use Rattle.pgm.proofs.+put_number.Goals as goal

-- a number below 10 has one digit, any other one more than number / 10
one_long : (n : ℕ) → n < 10 → length (decimal n) ≡ 1
one_long n s = ap length (decimal_one n s)

more_long : (n : ℕ) → 10 ≤ n → length (decimal n) ≡ length (decimal (n / 10)) + 1
more_long n l = ap length (decimal_more n l) ∙ length-append (decimal (n / 10)) (digit (n % 10) ∷ [])

pub bounds-out-at : goal.bounds-out-at
bounds-out-at t c = omega (arith, c.requires, one_long c.args.number c.if-number-lt10.true)

pub returns-then-number-lt10 : goal.returns-then-number-lt10
returns-then-number-lt10 t c =
    let a = c.args in
    rw (decimal_one a.number c.if-number-lt10.true)
    (puts_byte a.at (digit a.number) a.out.now (omega (arith, c.requires, one_long a.number c.if-number-lt10.true)))

pub put_number-last-requires : goal.put_number-last-requires
put_number-last-requires t c =
    (omega (arith, c.decreases), omega (arith, c.requires, more_long c.args.number c.if-number-lt10.false))

pub bounds-out-last : goal.bounds-out-last
bounds-out-last t c =
    let m = more_long c.args.number c.if-number-lt10.false in
    omega (arith, c.requires, c.put_number-last.ensures.answers, puts_length c.put_number-last.ensures (omega (arith, c.requires)))

pub returns : goal.returns
returns t c =
    let m = more_long c.args.number c.if-number-lt10.false in
    rw (decimal_more c.args.number c.if-number-lt10.false)
    (puts_then c.put_number-last.ensures (digit (c.args.number % 10)) (omega (arith, c.requires)))
