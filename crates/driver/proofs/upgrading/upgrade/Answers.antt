use Rattle.driver.proofs.Upgrades.{is_upgrade}
use Rattle.driver.proofs.upgrading.upgrade.Goals as goal

pub write_image-requires : goal.write_image-requires
write_image-requires c = c.in_ok-image.ensures.loaded.1.image

pub returns-in-Ok-clause-upgraded : goal.returns-in-Ok-clause-upgraded
returns-in-Ok-clause-upgraded c =
    let l = c.in_ok-image.ensures.loaded in
    is_upgrade c.args.bytes.now c.in-Ok.newer.items c.in_ok-image.image l.0 l.1 l.2 c.in-Ok.ensures
