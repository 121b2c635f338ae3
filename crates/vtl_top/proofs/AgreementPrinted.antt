-- What the command `sql` prints is a text of the script.
use Rattle.std.proofs.Common.{◌≡◌, Some, Ok, ap, ◌∙◌}
use Rattle.vtl_lists.proofs.Alls.{all_each}
use Rattle.vtl_files.specs.Outside.{bytes_at}
use Rattle.vtl_check.specs.Uses.{reads}
use Rattle.vtl_top.specs.Agreement.{AreTwins, IsPrinted}
use Rattle.vtl_top.specs.Expected.{file_in, text_step}
use Rattle.vtl_top.specs.Steps.{Held, Made, only_text, settled}
use Rattle.vtl_top.specs.Words.{Engine, Run}
use Rattle.vtl_top.proofs.MeantLemmas.{text_only, went_on}

pub printed_are_twins : (r : Run) (e : Engine) (held other : Held) → IsPrinted r e held other → AreTwins r e held other
printed_are_twins r e held other is =
    let made = went_on (text_step r.source) (λ text. settled (Ok (only_text text))) held is.made is.printed in
    let said : is.made ≡ only_text made.0 = cc (made.2) in
    let script = text_only r.source held made.0 made.1 in
    record {
      text = made.0;
      script = script;
      sql_file = is.sql_file ∙ ap (λ (m : Made). Some m.text) said;
      input = is.input;
      same = all_each (λ d. bytes_at (file_in r.input d.0) other ≡ bytes_at (file_in r.input d.0) held) (λ d. is.same d.0) (reads script.typed.structures script.typed.nodes);
    }
