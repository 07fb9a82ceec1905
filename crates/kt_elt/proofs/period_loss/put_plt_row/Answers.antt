-- The fields, each in front of those behind it.
use Rattle.std.proofs.Common.{◌++◌, ◌∷◌, [], ◌∙◌, ℕ, List, ap, sym}
use Rattle.kt_money.specs.NumberText.{count_text, money_text}
use Rattle.kt_elt.specs.RowType.{type_number}
use Rattle.kt_elt.proofs.LineLemmas.{field_in_front}
use Rattle.kt_elt.proofs.period_loss.put_plt_row.Goals as goal

pub returns : goal.returns
returns c =
    let behind = c.args.row.now in
    let year = count_text c.args.at.now.occ_year in
    let date = count_text c.args.at.now.occ_month ∷ count_text c.args.at.now.occ_day ∷ [] in
    let exposure = money_text c.args.entry.now.exposure in
    let sd = money_text c.args.moments.sd in
    let mean = money_text c.args.moments.mean in
    let period = count_text c.args.at.now.period_no in
    let event = count_text c.args.entry.now.event in
    let kind = count_text (type_number c.args.kind) in
    let summary = count_text c.args.entry.now.summary in
    let with_exposure = field_in_front exposure year date behind c.put_date.new.row c.put_byte.new.self c.put_money.new.self c.put_date.ensures.value c.put_byte.ensures.value c.put_money.ensures.value in
    let with_sd = field_in_front sd exposure (year ∷ date) behind c.put_money.new.self c.put_byte-2.new.self c.put_money-2.new.self with_exposure c.put_byte-2.ensures.value c.put_money-2.ensures.value in
    let with_mean = field_in_front mean sd (exposure ∷ year ∷ date) behind c.put_money-2.new.self c.put_byte-3.new.self c.put_money-3.new.self with_sd c.put_byte-3.ensures.value c.put_money-3.ensures.value in
    let with_period = field_in_front period mean (sd ∷ exposure ∷ year ∷ date) behind c.put_money-3.new.self c.put_byte-4.new.self c.put_count.new.self with_mean c.put_byte-4.ensures.value
    (c.put_count.ensures.value ∙ ap (λ (n : ℕ). count_text n ++ c.put_byte-4.new.self) c.from.ensures) in
    let with_event = field_in_front event period (mean ∷ sd ∷ exposure ∷ year ∷ date) behind c.put_count.new.self c.put_byte-5.new.self c.put_count-2.new.self with_period c.put_byte-5.ensures.value
    (c.put_count-2.ensures.value ∙ ap (λ (n : ℕ). count_text n ++ c.put_byte-5.new.self) c.from-2.ensures) in
    let with_kind = field_in_front kind event (period ∷ mean ∷ sd ∷ exposure ∷ year ∷ date) behind c.put_count-2.new.self c.put_byte-6.new.self c.put_byte-7.new.self with_event c.put_byte-6.ensures.value
    (c.put_byte-7.ensures.value ∙ ap (λ (digits : List ℕ). digits ++ c.put_byte-6.new.self) (sym c.digit.ensures.value)) in
    record {
      value = field_in_front summary kind (event ∷ period ∷ mean ∷ sd ∷ exposure ∷ year ∷ date) behind c.put_byte-7.new.self c.put_byte-8.new.self c.put_count-3.new.self with_kind c.put_byte-8.ensures.value
          (c.put_count-3.ensures.value ∙ ap (λ (n : ℕ). count_text n ++ c.put_byte-8.new.self) c.from-3.ensures);
    }
