use Rattle.std.proofs.Common.{◌+◌, ◌^◌, ◌-◌, ◌*◌, ◌≤◌, ◌/◌, ◌%◌, arith}
use Rattle.std.proofs.Math.Pow.{pow_mono}
use Rattle.std.proofs.Math.Nat.{div-le_self, mul-le-mul}
use Rattle.job_text.proofs.floats.millionths.Goals as goal

pub overflow_add-result : goal.overflow_add-result
overflow_add-result c =
    let few : 2 ^ (149 - c.exponent-exponent.result) ≤ 2 ^ 59 = pow_mono {j = 59} (omega (arith, c.if-exponent-lt90.false)) in
    omega (arith, few, c.significand-size.ensures.small)

pub returns-then-exponent-lt150-clause-small : goal.returns-then-exponent-lt150-clause-small
returns-then-exponent-lt150-clause-small c =
    let few : 2 ^ (149 - c.exponent-exponent.result) ≤ 2 ^ 59 = pow_mono {j = 59} (omega (arith, c.if-exponent-lt90.false)) in
    let sum = c.significand-size.result * 1000000 + 1 * 2 ^ (149 - c.exponent-exponent.result) % 340282366920938463463374607431768211456 in
    let parts = 1 * 2 ^ (150 - c.exponent-exponent.result) % 340282366920938463463374607431768211456 in
    let least : sum / parts ≤ sum = div-le_self sum parts in
    omega (arith, few, least, c.significand-size.ensures.small)

pub returns-else-exponent-lt150-clause-small : goal.returns-else-exponent-lt150-clause-small
returns-else-exponent-lt150-clause-small c =
    let few : 2 ^ (c.exponent-exponent.result - 150) ≤ 2 ^ 18 = pow_mono {j = 18} (omega (arith, c.requires, c.exponent-exponent.ensures.value)) in
    let shift = 1 * 2 ^ (c.exponent-exponent.result - 150) % 340282366920938463463374607431768211456 in
    let low : shift ≤ 262144 = omega (arith, few) in
    let size : c.significand-size.result * 1000000 ≤ 16777216000000 = omega (arith, c.significand-size.ensures.small) in
    let both : c.significand-size.result * 1000000 * shift ≤ 16777216000000 * 262144 = mul-le-mul size low in
    omega (arith, both)
