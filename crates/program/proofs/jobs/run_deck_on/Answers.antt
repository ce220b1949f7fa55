use Rattle.program.proofs.jobs.run_deck_on.Goals as goal

pub returns-in-Ok-clause-ran : goal.returns-in-Ok-clause-ran
returns-in-Ok-clause-ran g c = record {
  system = c.args.system.now;
  fresh = c.in_ok-units.units;
  after = c.run_deck_on_files.new.units;
  made = c.in_ok-units.ensures.fresh;
  meaning = c.in-Ok.ensures.meaning;
  run = c.in-Ok.ensures.run;
  card = c.in-Ok.ensures.card;
}
