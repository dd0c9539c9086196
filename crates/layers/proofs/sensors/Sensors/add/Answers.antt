use Rattle.std.proofs.Common.{◌≡◌, true, false, leb, length, refl, ap, ◌∙◌, arith}
use Rattle.std.proofs.lemmas.Bool.{lt-leb}
use Rattle.std.proofs.lemmas.Bool.Decides.{nat_tests}
use Rattle.sets.specs.Counting.{one_of}
use Rattle.layers.specs.Layers.{sensors_of, with_sensors}
use Rattle.layers.proofs.Layering.{one_sensor_more}
use Rattle.layers.proofs.sensors.Sensors.add.Goals as goal

pub returns : goal.returns
returns g c =
    let s = c.args.self.now in
    let M = g.S.Source.means s.below in
    let xs = sensors_of s in
    let x = c.args.unknown in
    let full = c.if-is_full.ensures in
    let few : leb 16 (length xs) ≡ false = grind (arith, nat_tests, full.value, full.fits) in
    let fits : leb 128 (with_sensors M xs).m ≡ false = lt-leb 128 (with_sensors M xs).m (omega arith) in
    let known : one_of M.n x ≡ true = grind (arith, nat_tests) in
    let more = c.push.ensures.items in
    (simp (few, fits, known), (ap (with_sensors M) more ∙ one_sensor_more M xs x (omega arith) known, (more, refl)))
