-- `View::of`: the header's length, and each count the byte that was read for it.
use native.Mathlib.Omega.{arith}
use mathlib.Core.Path.{◌∙◌}
use Rattle.card.proofs.header.View.of.Goals as goal

pub invariant_of-result : goal.invariant_of-result
invariant_of-result c =
    record {
      starts = c.header_length.ensures.0;
      short_header = c.header_length.ensures.1;
      counts_nonterminals = c.from.ensures ∙ c.byte.ensures;
      few_nonterminals = omega (arith, c.from.ensures, c.byte.type_inv);
      counts_words = c.from-2.ensures ∙ c.byte-2.ensures;
      few_words = omega (arith, c.from-2.ensures, c.byte-2.type_inv);
      counts_indices = c.from-3.ensures ∙ c.byte-3.ensures;
      few_indices = omega (arith, c.from-3.ensures, c.byte-3.type_inv);
      counts_productions = c.from-4.ensures ∙ c.byte-4.ensures;
      few_productions = omega (arith, c.from-4.ensures, c.byte-4.type_inv);
    }
