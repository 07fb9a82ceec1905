use Rattle.kt_loop.proofs.record_reader.what_is_read_stays.Goals as goal

pub returns : goal.returns
returns g c shape bytes more =
    let grows = c.what_is_read_stays.ensures shape bytes more in
    record { head = grows.head; entries = grows.entries; headless = c.no_header_means_no_records.ensures shape bytes }
