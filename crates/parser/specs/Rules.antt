-- The rules that expressions keep.
use Rattle.std.specs.Prelude.{◌≡◌, Bool}
use Rattle.model.specs.Deck.Faults.{everywhere, in_args, call_fits, keyword_known, operand_fits}
use Rattle.model.specs.Deck.Trees.{Expr, Args}
use Rattle.parser.specs.declared.rules.Kept.{Kept}

-- what is kept is what each part of an expression keeps
pub record Keeps (kept : Kept) (e : Expr) : Type 0 where
  pub calls : kept.calls ≡ everywhere call_fits e
  pub keywords : kept.keywords ≡ everywhere keyword_known e
  pub operands : kept.operands ≡ everywhere operand_fits e

pub record AllKeep (kept : Kept) (args : Args) : Type 0 where
  pub calls : kept.calls ≡ in_args call_fits args
  pub keywords : kept.keywords ≡ in_args keyword_known args
  pub operands : kept.operands ≡ in_args operand_fits args

-- what is kept is what passes in a part of a statement
pub record AreKept (kept : Kept) (passes : (Expr → Bool) → Bool) : Type 0 where
  pub calls : kept.calls ≡ passes call_fits
  pub keywords : kept.keywords ≡ passes keyword_known
  pub operands : kept.operands ≡ passes operand_fits
