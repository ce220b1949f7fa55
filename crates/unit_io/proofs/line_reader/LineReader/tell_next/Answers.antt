use Rattle.std.proofs.Common.{ap, refl}
use Rattle.unit_io.proofs.ReadOn.{took_none, took_on, tells_next}
use Rattle.unit_io.proofs.line_reader.LineReader.tell_next.Goals as goal

pub turns-init : goal.turns-init
turns-init g c = took_none (g.R.Read.remaining c.args.self.now.source) c.args.self.now.held

pub turns-preserved : goal.turns-preserved
turns-preserved g c =
    took_on _ _ _ _ c.turns.self.held c.find_feed.new.self c.read.new.self c.turns.invariant c.find_feed.ensures.kept c.in_ok-read.ensures.more

pub returns-in-Some : goal.returns-in-Some
returns-in-Some g c =
    tells_next c.take_line.result _ _ _ _ c.turns.self.held c.find_feed.new.self c.take_line.new.self.held c.turns.invariant c.find_feed.ensures.kept c.take_line.ensures.told
    (ap g.R.Read.remaining c.take_line.ensures.kept)

pub returns-then-not-branch : goal.returns-then-not-branch
returns-then-not-branch g c =
    let took = took_on _ _ _ _ c.turns.self.held c.find_feed.new.self c.read.new.self c.turns.invariant c.find_feed.ensures.kept c.in_ok-read.ensures.more in
    tells_next c.take_last.result _ _ _ _ c.read.new.self c.read.new.self c.take_last.new.self.held took refl c.take_last.ensures.told (ap g.R.Read.remaining c.take_last.ensures.kept)
