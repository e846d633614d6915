-- `finding::neither` meets its contract: the product of the distances is 0 exactly if one of them is. Assumes nothing.
use Rattle.std.proofs.Common.{◌≡◌, ◌+◌, ◌-◌, ◌%◌, ◌^◌, ◌<◌, arith}
use Rattle.finding.proofs.Distances.{product_tells}
use Rattle.finding.proofs.neither.Goals as goal

pub returns : goal.returns
returns c =
    let a = c.args in
    let w : a.x < 2 ^ 32 = omega (arith, c.ranges.x.fits) in
    let s0 : (a.key0 + (4294967296 - a.x)) % 4294967296 < 2 ^ 32 = omega arith in
    let s1 : (a.key1 + (4294967296 - a.x)) % 4294967296 < 2 ^ 32 = omega arith in
    let w0 : ((a.key0 + (4294967296 - a.x)) % 4294967296 + a.x) % 2 ^ 32 ≡ a.key0 = omega (arith, c.ranges.key0.fits) in
    let w1 : ((a.key1 + (4294967296 - a.x)) % 4294967296 + a.x) % 2 ^ 32 ≡ a.key1 = omega (arith, c.ranges.key1.fits) in
    product_tells a.key0 a.key1 a.x _ _ w s0 s1 w0 w1
